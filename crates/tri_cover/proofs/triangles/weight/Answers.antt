use Rattle.std.proofs.Common.{rules, ◌≡◌, ℤ, pos, ◌-ℤ◌, ◌*ℤ◌, FitsSigned, w32, w64, ap, ◌∙◌, refl, arith}
use Rattle.std.proofs.lemmas.Int.{ints, to_z-of_z}
use Rattle.gfx_model.specs.Raster.{edge, centre}
use Rattle.tri_cover.specs.Seen.{screen_seen}
use Rattle.tri_cover.proofs.triangles.weight.Goals as goal

nothing_less : (a b : ℤ) → a -ℤ b -ℤ pos 0 ≡ a -ℤ b
nothing_less a b = omega (arith, ints)

pub returns-clause-value : goal.returns-clause-value
returns-clause-value c =
    let px : FitsSigned w32 c.args.p.now.x = search rules in
    let py : FitsSigned w32 c.args.p.now.y = search rules in
    let qx : FitsSigned w32 c.args.q.now.x = search rules in
    let qy : FitsSigned w32 c.args.q.now.y = search rules in
    let g1 : FitsSigned w32 c.centre_of.result = search rules in
    let g2 : FitsSigned w32 c.centre_of-2.result = search rules in
    let f1 : FitsSigned w64 c.difference.result = search rules in
    let f2 : FitsSigned w64 c.difference-2.result = search rules in
    let f3 : FitsSigned w64 c.difference-3.result = search rules in
    let f4 : FitsSigned w64 c.difference-4.result = search rules in
    let f5 : FitsSigned w64 c.product.result = search rules in
    let f6 : FitsSigned w64 c.product-2.result = search rules in
    let f7 : FitsSigned w64 c.less.result = search rules in
    let d1 : c.difference.result ≡ c.args.q.now.x -ℤ c.args.p.now.x = simp to_z-of_z at c.difference.ensures.value in
    let d2 : c.difference-2.result ≡ centre c.args.y -ℤ c.args.p.now.y = (simp to_z-of_z at c.difference-2.ensures.value) ∙ ap (λ z. z -ℤ c.args.p.now.y) c.centre_of.ensures.value in
    let d3 : c.difference-3.result ≡ c.args.q.now.y -ℤ c.args.p.now.y = simp to_z-of_z at c.difference-3.ensures.value in
    let d4 : c.difference-4.result ≡ centre c.args.x -ℤ c.args.p.now.x = (simp to_z-of_z at c.difference-4.ensures.value) ∙ ap (λ z. z -ℤ c.args.p.now.x) c.centre_of-2.ensures.value in
    let p1 : c.product.result ≡ c.difference.result *ℤ c.difference-2.result = simp to_z-of_z at c.product.ensures.value in
    let p2 : c.product-2.result ≡ c.difference-3.result *ℤ c.difference-4.result = simp to_z-of_z at c.product-2.ensures.value in
    let l : c.less.result ≡ c.product.result -ℤ c.product-2.result -ℤ pos 0 = simp to_z-of_z at c.less.ensures.value in
    let whole : c.less.result ≡ edge (screen_seen c.args.p.now) (screen_seen c.args.q.now) c.args.x c.args.y = l ∙ nothing_less c.product.result c.product-2.result ∙ rw (p1, p2, d1, d2, d3, d4) refl in
    simp to_z-of_z whole
