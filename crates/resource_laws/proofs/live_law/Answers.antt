use Rattle.resource_laws.proofs.LiveLaws.{live_found}
use Rattle.resource_laws.proofs.live_law.Goals as goal

pub returns : goal.returns
returns c = live_found
