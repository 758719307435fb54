use Rattle.store_laws.proofs.Start.{start_stands}
use Rattle.store_laws.proofs.start_law.Goals as goal

pub returns : goal.returns
returns c = start_stands
