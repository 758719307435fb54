use Rattle.std.proofs.Common.{◌∙◌}
use Rattle.ring_turning.proofs.Calls.{one_more}
use Rattle.ring_turning.proofs.recording.draw_half.Goals as goal

pub loop-i-preserved : goal.loop-i-preserved
loop-i-preserved g c =
    let was = c.loop-i.invariant in
    let same = c.in_ok-draw.ensures.same in
    record {
      drawn = one_more c.args.things.now c.args.steps c.args.first c.loop-i.i _ c.loop-i.encoder.recorder c.draw.new.encoder.recorder was.drawn c.in_ok-draw.ensures.one;
      same = (same.0 ∙ was.same.0, same.1 ∙ was.same.1);
    }
