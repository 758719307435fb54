use Rattle.resource_laws.proofs.RunLaws.{bare_law}
use Rattle.resource_laws.proofs.bare_law.Goals as goal

pub returns : goal.returns
returns c = bare_law
