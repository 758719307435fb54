use Rattle.std.proofs.Common.{◌*◌, ◌/◌, ◌%◌, ◌+◌, ◌^◌, ◌∙◌}
use Rattle.tri_cover.proofs.Widened.{depth_widened}
use Rattle.tri_cover.proofs.ramps.Ramp.wide_depth.Goals as goal

pub returns : goal.returns
returns c x y =
    let r = c.args.self.now in
    (λ i. (c.upper.ensures i + x * c.upper-2.ensures i + y * c.upper-3.ensures i) % 2 ^ 128 / 2 ^ 104) ∙ depth_widened r.start r.right r.down x y
