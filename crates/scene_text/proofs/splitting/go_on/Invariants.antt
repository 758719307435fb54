use Rattle.std.proofs.Common.{◌+◌, ◌≤◌}
use Rattle.text_fields.specs.Fields.{texts}
use Rattle.scene_text.specs.Cuts.{IsCut, IsPending}
use Rattle.scene_text.proofs.splitting.go_on.Given as goal

-- the fields before the open one, and the marks behind its beginning
abbrev pub invariant-loop-marks : goal.invariant-loop-marks
invariant-loop-marks l = record {
  cut : IsCut l.bytes l.start (texts l.fields.items);
  near : l.start ≤ l.from + 32;
  pending : IsPending l.bytes l.start l.from l.marks;
}

abbrev pub decreases-loop-marks : goal.decreases-loop-marks
decreases-loop-marks l = l.marks
