use Rattle.frame_capture.proofs.Frames.{shown-again, same-texts}
use Rattle.frame_capture.proofs.laws.one_reading.Goals as goal

pub returns : goal.returns
returns c = record { read = shown-again; alone = same-texts }
