use Rattle.shared_keys.proofs.There.{there}
use Rattle.shared_keys.proofs.laws.there_law.Goals as goal

pub returns : goal.returns
returns c = there
