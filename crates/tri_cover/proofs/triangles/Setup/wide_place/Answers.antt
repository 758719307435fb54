use Rattle.std.proofs.Common.{FitsSigned, w32, w64, arith}
use Rattle.std.proofs.lemmas.Int.{ints, to_z-of_z}
use Rattle.gfx_model.specs.Raster.{weighted}
use Rattle.tri_cover.specs.Seen.{triangle_seen}
use Rattle.tri_cover.specs.Widened.{wide_whole}
use Rattle.tri_cover.proofs.Widened.{wide_place_is}
use Rattle.tri_cover.proofs.triangles.Setup.wide_place.Goals as goal

pub returns : goal.returns
returns c x y hx hy =
    let s = c.args.self.now in
    let u : FitsSigned w32 c.args.u = c.ranges.u in
    let v : FitsSigned w32 c.args.v = c.ranges.v in
    let w : FitsSigned w32 c.args.w = c.ranges.w in
    let wu : FitsSigned w64 c.args.u = omega (arith, ints, u) in
    let wv : FitsSigned w64 c.args.v = omega (arith, ints, v) in
    let ww : FitsSigned w64 c.args.w = omega (arith, ints, w) in
    wide_place_is (wide_whole c.wide_ramp.result x y) (weighted (triangle_seen s.a s.b s.c) x y c.args.u c.args.v c.args.w) (simp to_z-of_z at (c.wide_ramp.ensures x y hx hy))
