use Rattle.scene_showing.proofs.Counts.{encoder_more}
use Rattle.scene_showing.proofs.counting.counts_in_frame.Goals as goal

pub loop-encoder-preserved : goal.loop-encoder-preserved
loop-encoder-preserved c =
    encoder_more c.args.entries.now c.loop-encoder.encoder c.in_ok-count_of_encoder.field-0 _ _ c.loop-encoder.invariant c.in_ok-count_of_encoder.ensures c.in_ok-push.ensures.more
