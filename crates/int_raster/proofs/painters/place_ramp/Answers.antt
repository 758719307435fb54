use Rattle.std.proofs.Common.{FitsSigned, w32}
use Rattle.std.proofs.lemmas.Int.{to_z-of_z}
use Rattle.gfx_model.specs.Raster.{weighted}
use Rattle.tri_cover.specs.Shown.{setup_seen}
use Rattle.tri_cover.specs.Widened.{wide_whole}
use Rattle.int_raster.proofs.Samples.{unit_part_same}
use Rattle.int_raster.proofs.painters.place_ramp.Goals as goal

pub returns-in-Some : goal.returns-in-Some
returns-in-Some c x y hx hy near covered =
    let t = (setup_seen c.args.setup.now).triangle in
    let u : FitsSigned w32 c.args.u = c.ranges.u in
    let v : FitsSigned w32 c.args.v = c.ranges.v in
    let w : FitsSigned w32 c.args.w = c.ranges.w in
    unit_part_same (wide_whole c.wide_place.result x y) (weighted t x y c.args.u c.args.v c.args.w)
    (c.wide_place.ensures x y (weighted t x y c.args.u c.args.v c.args.w) (simp to_z-of_z at (c.in-Some.ensures.ramp t c.requires x y near covered)))

pub returns-in-None : goal.returns-in-None
returns-in-None c x y hx hy near covered =
    let u : FitsSigned w32 c.args.u = c.ranges.u in
    let v : FitsSigned w32 c.args.v = c.ranges.v in
    let w : FitsSigned w32 c.args.w = c.ranges.w in
    let t = (setup_seen c.args.setup.now).triangle in
    unit_part_same (wide_whole c.wide_place-in-None.result x y) (weighted t x y c.args.u c.args.v c.args.w) (simp to_z-of_z at (c.wide_place-in-None.ensures x y hx hy))
