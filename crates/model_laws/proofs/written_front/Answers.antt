use Rattle.spelling_model.proofs.Fronts.{written-front-law}
use Rattle.model_laws.proofs.written_front.Goals as goal

pub returns : goal.returns
returns c = written-front-law
