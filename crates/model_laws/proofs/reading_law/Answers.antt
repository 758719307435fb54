use Rattle.spelling_model.proofs.Reading.{reading-law}
use Rattle.model_laws.proofs.reading_law.Goals as goal

pub returns : goal.returns
returns c = reading-law
