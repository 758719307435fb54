use Rattle.std.proofs.Common.{◌≡◌, ◌<◌, ◌*◌, ◌+◌, length, [], refl, FitsSigned, w32}
use Rattle.std.proofs.lemmas.Int.{to_z-of_z}
use Rattle.std.proofs.lemmas.List.{get_or_default}
use Rattle.std.proofs.lemmas.Nat.{mul-add-lt}
use Rattle.gfx_model.specs.Raster as model
use Rattle.fix_math.proofs.picture.Texels.sample.Goals as goal

pub returns : goal.returns
returns c =
    let u : FitsSigned w32 c.args.u = c.ranges.u in
    let v : FitsSigned w32 c.args.v = c.ranges.v in
    let t = c.args.self.now in
    let y = c.wrapped-y.result in
    let x = c.wrapped-x.result in
    let row : y ≡ model.wrapped c.args.v t.height = simp to_z-of_z at c.wrapped-y.ensures.place in
    let column : x ≡ model.wrapped c.args.u t.width = simp to_z-of_z at c.wrapped-x.ensures.place in
    let inside : y * t.width + x < t.width * t.height = mul-add-lt y t.width x t.height c.wrapped-y.ensures.within c.wrapped-x.ensures.within in
    let below : y * t.width + x < length t.texels = rw t.whole inside in
    rw (c.as_slice.ensures, get_or_default t.texels (y * t.width + x) [] model.no_color below, row, column) refl
