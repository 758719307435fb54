use Rattle.resource_laws.proofs.RunLaws.{reached}
use Rattle.resource_laws.proofs.reached_law.Goals as goal

pub returns : goal.returns
returns c = reached
