use Rattle.scene_model.proofs.RecordingLaws.{recordings_lawful}
use Rattle.model_laws.proofs.recordings_law.Goals as goal

pub returns : goal.returns
returns c = recordings_lawful
