use Rattle.std.proofs.Common.{◌≡◌, ◌*◌, ◌++◌, length, take, drop}
use Rattle.scene_text.specs.Digits.{pairs_of}
use Rattle.scene_text.proofs.bytes.put_rest.Given as goal

-- the bytes so far, and those of the rest
abbrev pub invariant-loop-place : goal.invariant-loop-place
invariant-loop-place l = record {
  pairs : take l.place l.bytes ++ pairs_of (drop (2 * l.place) l.digits) ≡ pairs_of l.digits;
  length : length l.digits ≡ 2 * length l.bytes;
}
