use Rattle.frame_capture.proofs.Lengths.{capture-short}
use Rattle.frame_capture.proofs.laws.length_law.Goals as goal

pub returns : goal.returns
returns c = capture-short
