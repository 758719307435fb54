use Rattle.gfx_model.proofs.FrameLaws.{collected_once}
use Rattle.model_laws.proofs.collected_law.Goals as goal

pub returns : goal.returns
returns c = collected_once
