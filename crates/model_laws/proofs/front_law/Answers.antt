use Rattle.scene_model.proofs.FrontLaws.{front-law}
use Rattle.model_laws.proofs.front_law.Goals as goal

pub returns : goal.returns
returns c = front-law
