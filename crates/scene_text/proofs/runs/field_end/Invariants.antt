use Rattle.std.proofs.Common.{◌-◌, ◌≤◌, length}
use Rattle.scene_text.specs.Cuts.{AreVisible}
use Rattle.scene_text.proofs.runs.field_end.Given as goal

abbrev pub invariant-loop-place : goal.invariant-loop-place
invariant-loop-place l = record {
  ordered : l.from ≤ l.place;
  within : l.place ≤ length l.bytes;
  visible : AreVisible l.bytes l.from l.place;
}

abbrev pub decreases-loop-place : goal.decreases-loop-place
decreases-loop-place l = length l.bytes - l.place
