use Rattle.std.proofs.Common.{◌-◌, ◌≤◌, length}
use Rattle.scene_text.specs.Runs.{AreDigits}
use Rattle.scene_text.proofs.runs.digits_at.Given as goal

abbrev pub invariant-loop-place : goal.invariant-loop-place
invariant-loop-place l = record {
  found : l.value ≤ 4294967295 → AreDigits l.bytes l.from l.place l.value;
  most : l.value ≤ 4294967296;
  within : l.place ≤ length l.bytes;
}

abbrev pub decreases-loop-place : goal.decreases-loop-place
decreases-loop-place l = length l.bytes - l.place
