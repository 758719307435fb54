use Rattle.shared_keys.proofs.NoLine.{free}
use Rattle.shared_keys.proofs.laws.free_law.Goals as goal

pub returns : goal.returns
returns c = free
