use Rattle.spelling_model.proofs.Writing.{writing-law}
use Rattle.model_laws.proofs.writing_law.Goals as goal

pub returns : goal.returns
returns c = writing-law
