use Rattle.std.proofs.Common.{◌≡◌, ◌-◌, ◌*◌, ◌≤◌, ◌++◌, length, take, drop}
use Rattle.scene_text.specs.Digits.{pairs_of}
use Rattle.scene_text.proofs.bytes.put_pairs.Given as goal

-- the bytes so far, and those of the rest
abbrev pub invariant-loop-bytes : goal.invariant-loop-bytes
invariant-loop-bytes l = record {
  within : l.from ≤ length l.bytes;
  sized : length l.digits ≡ 2 * length l.bytes;
  pairs : take l.from l.bytes ++ pairs_of (drop (2 * l.from) l.digits) ≡ pairs_of l.digits;
}

abbrev pub decreases-loop-bytes : goal.decreases-loop-bytes
decreases-loop-bytes l = length l.digits - l.from
