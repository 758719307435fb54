use Rattle.pass_laws.proofs.Passes.{pass_stands}
use Rattle.pass_laws.proofs.pass_law.Goals as goal

pub returns : goal.returns
returns c = pass_stands
