use Rattle.std.proofs.Common.{◌≡◌, ◌++◌, drop}
use Rattle.std.specs.List.{AllByRecursion}
use Rattle.gfx_model.specs.Views.{view_count}
use Rattle.shared_keys.specs.Marks.{IsThere}
use Rattle.draw_encoder.specs.Bundles.{items_of}
use Rattle.recorded_keys.specs.Recorded.{marks_of}
use Rattle.recorded_keys.proofs.frames.frame_marks.Given as goal

-- the marks so far, and those of the recordings that are left
abbrev pub invariant-loop-recording : goal.invariant-loop-recording
invariant-loop-recording l =
    AllByRecursion (λ r. AllByRecursion (IsThere (view_count l.views)) (items_of r)) l.recordings
    → l.marks.items ++ marks_of l.views (drop l.recording-index l.recordings) ≡ marks_of l.views l.recordings
