use Rattle.resource_laws.proofs.FreeLaws.{gives}
use Rattle.resource_laws.proofs.free_law.Goals as goal

pub returns : goal.returns
returns c = gives
