use Rattle.sort_key.proofs.Ordered.{order_of, one_key}
use Rattle.sort_key.proofs.order_of_keys.Goals as goal

pub returns-clause-order : goal.returns-clause-order
returns-clause-order c = order_of

pub returns-clause-one : goal.returns-clause-one
returns-clause-one c = one_key
