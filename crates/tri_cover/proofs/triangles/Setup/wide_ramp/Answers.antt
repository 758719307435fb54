use Rattle.std.proofs.Common.{rules, ◌≡◌, ◌<◌, ◌^◌, pos, ◌+ℤ◌, ◌-ℤ◌, ◌*ℤ◌, FitsSigned, w64, arith, ap, ◌∙◌}
use Rattle.std.specs.Int.{w128}
use Rattle.std.proofs.lemmas.Int.{ints, to_z-of_z}
use Rattle.gfx_model.specs.Raster.{area as area_spec}
use Rattle.tri_cover.specs.Seen.{triangle_seen}
use Rattle.tri_cover.specs.Widened.{IsWideSlope}
use Rattle.tri_cover.proofs.Widened.{wide_is}
use Rattle.tri_cover.proofs.triangles.Setup.wide_ramp.Goals as goal

pub returns : goal.returns
returns c x y hx hy =
    let s = c.args.self.now in
    let u = c.args.u in
    let v = c.args.v in
    let w = c.args.w in
    let fu : FitsSigned w64 c.args.u = c.ranges.u in
    let fv : FitsSigned w64 c.args.v = c.ranges.v in
    let fw : FitsSigned w64 c.args.w = c.ranges.w in
    let f1 : FitsSigned w64 c.weight.result = search rules in
    let f2 : FitsSigned w64 c.weight-2.result = search rules in
    let f3 : FitsSigned w64 c.weight-3.result = search rules in
    let f4 : FitsSigned w64 c.gained_by_column.result = search rules in
    let f5 : FitsSigned w64 c.gained_by_column-2.result = search rules in
    let f6 : FitsSigned w64 c.gained_by_column-3.result = search rules in
    let f7 : FitsSigned w64 c.gained_by_row.result = search rules in
    let f8 : FitsSigned w64 c.gained_by_row-2.result = search rules in
    let f9 : FitsSigned w64 c.gained_by_row-3.result = search rules in
    let fa : FitsSigned w64 c.area.result = search rules in
    let g1 : FitsSigned w128 c.weighted-at.result = search rules in
    let g2 : FitsSigned w128 c.weighted-right.result = search rules in
    let g3 : FitsSigned w128 c.weighted-down.result = search rules in
    let whole : c.area.result ≡ area_spec (triangle_seen s.a s.b s.c) = c.area.ensures.value in
    let same : pos c.size-n.result ≡ c.area.result = simp to_z-of_z at c.size-n.ensures.value in
    let few : c.size-n.result < 2 ^ 60 = omega (arith, ints, same, c.area.ensures.near) in
    let at : c.weighted-at.result ≡ c.weight.result *ℤ u +ℤ c.weight-2.result *ℤ v +ℤ c.weight-3.result *ℤ w = simp to_z-of_z at c.weighted-at.ensures.value in
    let right : c.weighted-right.result ≡ c.gained_by_column.result *ℤ u +ℤ c.gained_by_column-2.result *ℤ v +ℤ c.gained_by_column-3.result *ℤ w = simp to_z-of_z at c.weighted-right.ensures.value in
    let down : c.weighted-down.result ≡ c.gained_by_row.result *ℤ u +ℤ c.gained_by_row-2.result *ℤ v +ℤ c.gained_by_row-3.result *ℤ w = simp to_z-of_z at c.weighted-down.ensures.value in
    let sa : IsWideSlope (c.weight.result *ℤ u +ℤ c.weight-2.result *ℤ v +ℤ c.weight-3.result *ℤ w) c.wide_slope.result c.size-n.result = rw at at (simp to_z-of_z at c.wide_slope.ensures) in
    let sb : IsWideSlope (c.gained_by_column.result *ℤ u +ℤ c.gained_by_column-2.result *ℤ v +ℤ c.gained_by_column-3.result *ℤ w) c.wide_slope-2.result c.size-n.result = rw right at (simp to_z-of_z at c.wide_slope-2.ensures) in
    let sc : IsWideSlope (c.gained_by_row.result *ℤ u +ℤ c.gained_by_row-2.result *ℤ v +ℤ c.gained_by_row-3.result *ℤ w) c.wide_slope-3.result c.size-n.result = rw down at (simp to_z-of_z at c.wide_slope-3.ensures) in
    wide_is (triangle_seen s.a s.b s.c) u v w c.size-n.result x y c.weight.result c.weight-2.result c.weight-3.result c.gained_by_column.result c.gained_by_column-2.result c.gained_by_column-3.result c.gained_by_row.result c.gained_by_row-2.result c.gained_by_row-3.result
    (record { start = c.wide_start.result; right = c.wide_slope-2.result; down = c.wide_slope-3.result }) c.wide_slope.result (same ∙ whole) c.size-n.ensures.positive few hx hy
    c.weight.ensures.value c.weight-2.ensures.value c.weight-3.ensures.value
    (c.gained_by_column.ensures.value ∙ ap (λ f. pos 0 -ℤ pos 256 *ℤ f) s.second.fall) (c.gained_by_column-2.ensures.value ∙ ap (λ f. pos 0 -ℤ pos 256 *ℤ f) s.third.fall) (c.gained_by_column-3.ensures.value ∙ ap (λ f. pos 0 -ℤ pos 256 *ℤ f) s.first.fall)
    (c.gained_by_row.ensures.value ∙ ap (λ z. pos 256 *ℤ z) s.second.rise) (c.gained_by_row-2.ensures.value ∙ ap (λ z. pos 256 *ℤ z) s.third.rise) (c.gained_by_row-3.ensures.value ∙ ap (λ z. pos 256 *ℤ z) s.first.rise)
    sa sb sc c.wide_start.ensures
