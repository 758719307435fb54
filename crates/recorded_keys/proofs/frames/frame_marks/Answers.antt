use Rattle.std.specs.List.{AllByRecursion}
use Rattle.gfx_model.specs.Views.{view_count}
use Rattle.shared_keys.specs.Marks.{IsThere}
use Rattle.draw_encoder.specs.declared.items.Recording.{Recording}
use Rattle.draw_encoder.specs.Bundles.{items_of}
use Rattle.recorded_keys.specs.Recorded.{marks_of_items}
use Rattle.recorded_keys.proofs.KeyLaws.{flat-step, one-of}
use Rattle.recorded_keys.proofs.frames.frame_marks.Goals as goal

pub loop-recording-preserved : goal.loop-recording-preserved
loop-recording-preserved c = λ all.
    flat-step (λ (r : Recording). marks_of_items c.args.views.now r.encoder (items_of r)) c.args.recordings.now c.loop-recording.recording-index c.recording-item.result c.loop-recording.marks.items c.put_marks.new.marks.items _
    c.loop-recording-test.true c.recording-item.is (c.loop-recording.invariant all)
    (c.in_ok-put_marks.ensures (one-of (λ (r : Recording). AllByRecursion (IsThere (view_count c.args.views.now)) (items_of r)) c.args.recordings.now c.loop-recording.recording-index c.recording-item.result c.loop-recording-test.true c.recording-item.is all))
