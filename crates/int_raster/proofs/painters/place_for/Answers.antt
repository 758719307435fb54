use Rattle.std.proofs.Common.{rules, FitsSigned, w32}
use Rattle.std.proofs.lemmas.Int.{to_z-of_z}
use Rattle.gfx_model.specs.Number.{int_at}
use Rattle.int_raster.proofs.painters.place_for.Goals as goal

pub returns : goal.returns
returns c x y hx hy near covered =
    let a0 : FitsSigned w32 (int_at c.args.setup.now.a.texcoord 0) = search rules in
    let b0 : FitsSigned w32 (int_at c.args.setup.now.b.texcoord 0) = search rules in
    let c0 : FitsSigned w32 (int_at c.args.setup.now.c.texcoord 0) = search rules in
    let a1 : FitsSigned w32 (int_at c.args.setup.now.a.texcoord 1) = search rules in
    let b1 : FitsSigned w32 (int_at c.args.setup.now.b.texcoord 1) = search rules in
    let c1 : FitsSigned w32 (int_at c.args.setup.now.c.texcoord 1) = search rules in
    let u = c.place_ramp.ensures x y hx hy near covered in
    let v = c.place_ramp-2.ensures x y hx hy near covered in
    (simp to_z-of_z at u, simp to_z-of_z at v)
