use Rattle.scene_model.proofs.PlansFit.{order-law}
use Rattle.model_laws.proofs.order_law.Goals as goal

pub returns : goal.returns
returns c = order-law
