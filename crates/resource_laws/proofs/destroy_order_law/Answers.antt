use Rattle.resource_laws.proofs.DestroyOrder.{destroys_in_order}
use Rattle.resource_laws.proofs.destroy_order_law.Goals as goal

pub returns : goal.returns
returns c = destroys_in_order
