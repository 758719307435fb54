use Rattle.gfx_model.proofs.FrameLaws.{ordered_once}
use Rattle.model_laws.proofs.draw_order_law.Goals as goal

pub returns : goal.returns
returns c = ordered_once
