use Rattle.target_laws.proofs.Scenes.{scene-target-law}
use Rattle.target_laws.proofs.laws.scene_target_law.Goals as goal

pub returns : goal.returns
returns c = scene-target-law
