use Rattle.std.proofs.Common.{◌*◌, ◌/◌, ◌%◌, ◌+◌, ◌^◌, ◌∙◌}
use Rattle.tri_cover.specs.Slope.{ramp_at}
use Rattle.tri_cover.specs.declared.ramps.WideRamp.{WideRamp}
use Rattle.tri_cover.specs.Widened.{wide_whole}
use Rattle.tri_cover.proofs.Widened.{place_widened, same_place}
use Rattle.tri_cover.proofs.ramps.Ramp.wide_place.Goals as goal

pub returns : goal.returns
returns c x y v h =
    let r = c.args.self.now in
    let wide : WideRamp = record { start = c.raised_by_56.result; right = c.raised_by_56-2.result; down = c.raised_by_56-3.result } in
    same_place (wide_whole wide x y) (ramp_at r x y / 2 ^ 48) v
    ((λ i. (c.raised_by_56.ensures i + x * c.raised_by_56-2.ensures i + y * c.raised_by_56-3.ensures i) % 2 ^ 128 / 2 ^ 104 % 65536) ∙ place_widened r.start r.right r.down x y) h
