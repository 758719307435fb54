use Rattle.std.proofs.Common.{◌≡◌, ◌++◌, ◌-◌, ◌*◌, length}
use Rattle.frame_capture.specs.Spelling.{frames_of}
use Rattle.frame_capture.proofs.encoding.encode.Given as goal

abbrev pub invariant-loop-number : goal.invariant-loop-number
invariant-loop-number l = record {
  room : length l.rest ≡ (l.frames - l.number) * l.text_len;
  put : l.capture.items ++ frames_of (length l.head.bytes.items) l.text_len l.number (l.frames - l.number) l.rest ≡ l.initial.capture.items ++ frames_of (length l.head.bytes.items) l.text_len 0 l.frames l.texts;
}
