use Rattle.gfx_model.proofs.FrameLaws.{ordered_items}
use Rattle.model_laws.proofs.ordered_items_law.Goals as goal

pub returns : goal.returns
returns c = ordered_items
