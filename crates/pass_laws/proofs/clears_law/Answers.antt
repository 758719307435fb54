use Rattle.pass_laws.proofs.Passes.{clears_stand}
use Rattle.pass_laws.proofs.clears_law.Goals as goal

pub returns : goal.returns
returns c = clears_stand
