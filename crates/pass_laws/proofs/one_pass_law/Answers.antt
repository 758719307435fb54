use Rattle.pass_laws.proofs.Passes.{passes_are}
use Rattle.pass_laws.proofs.one_pass_law.Goals as goal

pub returns : goal.returns
returns c = passes_are
