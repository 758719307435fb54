use Rattle.std.proofs.Common.{ap, ◌∙◌}
use Rattle.scene_showing.proofs.Counts.{entry_counts, frame_more}
use Rattle.scene_showing.proofs.counting.counts_of_frames.Goals as goal

pub loop-frame-preserved : goal.loop-frame-preserved
loop-frame-preserved c =
    let row = c.in_ok-counts_in_frame.ensures ∙ ap (entry_counts c.args.encoders) c.as_slice.ensures in
    frame_more c.args.encoders c.args.frames.now c.loop-frame.frame-index c.frame-item.result c.in_ok-counts_in_frame.field-0 _ _ c.loop-frame-test.true c.frame-item.is c.loop-frame.invariant row c.in_ok-push.ensures.items
