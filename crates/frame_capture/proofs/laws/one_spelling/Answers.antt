use Rattle.frame_capture.proofs.Greedy.{one-capture}
use Rattle.frame_capture.proofs.laws.one_spelling.Goals as goal

pub returns : goal.returns
returns c = one-capture
