use Rattle.context_core.proofs.Attached as laws
use Rattle.context_core.proofs.attached_law.Goals as goal

pub returns : goal.returns
returns c = laws.attached_law
