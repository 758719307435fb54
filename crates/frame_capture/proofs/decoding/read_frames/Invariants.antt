use Rattle.std.proofs.Common.{◌≡◌, ◌-◌}
use Rattle.frame_capture.specs.Fault.{frames_at}
use Rattle.frame_capture.specs.Gives.{after_texts}
use Rattle.frame_capture.proofs.decoding.read_frames.Given as goal

abbrev pub invariant-loop-number : goal.invariant-loop-number
invariant-loop-number l = after_texts l.texts.items (frames_at l.head l.pixels l.number (l.frames - l.number) l.rest) ≡ after_texts l.fn.texts.items (frames_at l.head l.pixels 0 l.frames l.bytes)
