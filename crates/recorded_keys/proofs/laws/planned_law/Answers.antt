use Rattle.recorded_keys.proofs.Gathered.{planned}
use Rattle.recorded_keys.proofs.laws.planned_law.Goals as goal

pub returns : goal.returns
returns c = planned
