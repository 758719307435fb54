use Rattle.std.proofs.Common.{rules, ◌≡◌, ℤ, pos, ◌-ℤ◌, ◌*ℤ◌, FitsSigned, w32, w64, ◌∙◌, refl, arith}
use Rattle.std.proofs.lemmas.Int.{ints, to_z-of_z}
use Rattle.gfx_model.specs.Raster.{area as area_spec}
use Rattle.tri_cover.specs.Seen.{triangle_seen}
use Rattle.tri_cover.proofs.triangles.area.Goals as goal

nothing_less : (a b : ℤ) → a -ℤ b -ℤ pos 0 ≡ a -ℤ b
nothing_less a b = omega (arith, ints)

pub returns-clause-value : goal.returns-clause-value
returns-clause-value c =
    let ax : FitsSigned w32 c.args.a.now.x = search rules in
    let ay : FitsSigned w32 c.args.a.now.y = search rules in
    let bx : FitsSigned w32 c.args.b.now.x = search rules in
    let by : FitsSigned w32 c.args.b.now.y = search rules in
    let cx : FitsSigned w32 c.args.c.now.x = search rules in
    let cy : FitsSigned w32 c.args.c.now.y = search rules in
    let f1 : FitsSigned w64 c.difference.result = search rules in
    let f2 : FitsSigned w64 c.difference-2.result = search rules in
    let f3 : FitsSigned w64 c.difference-3.result = search rules in
    let f4 : FitsSigned w64 c.difference-4.result = search rules in
    let f5 : FitsSigned w64 c.product.result = search rules in
    let f6 : FitsSigned w64 c.product-2.result = search rules in
    let f7 : FitsSigned w64 c.less.result = search rules in
    let d1 : c.difference.result ≡ c.args.b.now.x -ℤ c.args.a.now.x = simp to_z-of_z at c.difference.ensures.value in
    let d2 : c.difference-2.result ≡ c.args.c.now.y -ℤ c.args.a.now.y = simp to_z-of_z at c.difference-2.ensures.value in
    let d3 : c.difference-3.result ≡ c.args.b.now.y -ℤ c.args.a.now.y = simp to_z-of_z at c.difference-3.ensures.value in
    let d4 : c.difference-4.result ≡ c.args.c.now.x -ℤ c.args.a.now.x = simp to_z-of_z at c.difference-4.ensures.value in
    let p1 : c.product.result ≡ c.difference.result *ℤ c.difference-2.result = simp to_z-of_z at c.product.ensures.value in
    let p2 : c.product-2.result ≡ c.difference-3.result *ℤ c.difference-4.result = simp to_z-of_z at c.product-2.ensures.value in
    let l : c.less.result ≡ c.product.result -ℤ c.product-2.result -ℤ pos 0 = simp to_z-of_z at c.less.ensures.value in
    let whole : c.less.result ≡ area_spec (triangle_seen c.args.a.now c.args.b.now c.args.c.now) = l ∙ nothing_less c.product.result c.product-2.result ∙ rw (p1, p2, d1, d2, d3, d4) refl in
    simp to_z-of_z whole
