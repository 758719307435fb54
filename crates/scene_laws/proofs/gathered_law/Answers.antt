use Rattle.scene_laws.proofs.Gathering.{has_frame}
use Rattle.scene_laws.proofs.gathered_law.Goals as goal

pub returns : goal.returns
returns c = has_frame
