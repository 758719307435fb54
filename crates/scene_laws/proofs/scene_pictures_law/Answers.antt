use Rattle.scene_laws.proofs.Pictures.{scene_pictures}
use Rattle.scene_laws.proofs.scene_pictures_law.Goals as goal

pub returns : goal.returns
returns c = scene_pictures
