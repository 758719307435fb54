use Rattle.spelling_model.proofs.Reading.{one-reading}
use Rattle.model_laws.proofs.one_reading.Goals as goal

pub returns : goal.returns
returns c = one-reading
