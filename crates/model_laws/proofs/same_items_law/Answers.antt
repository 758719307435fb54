use Rattle.scene_model.proofs.RecordingLaws.{same_items}
use Rattle.model_laws.proofs.same_items_law.Goals as goal

pub returns : goal.returns
returns c = same_items
