use Rattle.store_model.proofs.TargetLaws.{two_textures}
use Rattle.store_model.proofs.two_textures_law.Goals as goal

pub returns : goal.returns
returns c = two_textures
