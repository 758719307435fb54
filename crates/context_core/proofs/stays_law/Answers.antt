use Rattle.context_core.proofs.Stays as laws
use Rattle.context_core.proofs.stays_law.Goals as goal

pub returns : goal.returns
returns c = laws.stays_law
