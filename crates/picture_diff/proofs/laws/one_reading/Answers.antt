use Rattle.picture_diff.proofs.Texts.{reading-same}
use Rattle.picture_diff.proofs.laws.one_reading.Goals as goal

pub returns : goal.returns
returns c = reading-same
