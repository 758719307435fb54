use Rattle.spelling_model.proofs.Writing.{readable-law}
use Rattle.model_laws.proofs.readable_law.Goals as goal

pub returns : goal.returns
returns c = readable-law
