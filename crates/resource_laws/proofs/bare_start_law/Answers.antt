use Rattle.resource_laws.proofs.RunLaws.{bare_started}
use Rattle.resource_laws.proofs.bare_start_law.Goals as goal

pub returns : goal.returns
returns c = bare_started
