use Rattle.draw_encoder.proofs.Begins.{as_begun}
use Rattle.draw_encoder.proofs.laws.answers_as_begun.Goals as goal

pub returns : goal.returns
returns c = as_begun
