use Rattle.std.proofs.Common.{rules, pos, ◌≤ℤ◌, ◌<ℤ◌, FitsSigned, w32, arith}
use Rattle.std.proofs.lemmas.Int.{ints, clamps, to_z-of_z, by_lt_z}
use Rattle.gfx_model.specs.Raster.{centre}
use Rattle.tri_cover.specs.Seen.{triangle_seen}
use Rattle.tri_cover.proofs.Barycentre.{not_above, not_below}
use Rattle.tri_cover.proofs.triangles.Setup.rows.Goals as goal

pub returns-clause-covered : goal.returns-clause-covered
returns-clause-covered c x y b h =
    let s = c.args.self.now in
    let t = triangle_seen s.a s.b s.c in
    let ay : FitsSigned w32 c.args.self.now.a.y = search rules in
    let by : FitsSigned w32 c.args.self.now.b.y = search rules in
    let cy : FitsSigned w32 c.args.self.now.c.y = search rules in
    let f1 : FitsSigned w32 c.least.result = search rules in
    let f2 : FitsSigned w32 c.greatest.result = search rules in
    let f3 : FitsSigned w32 c.row_from-first.result = search rules in
    let f4 : FitsSigned w32 c.row_after-after.result = search rules in
    let top : c.least.result ≤ℤ centre y = by_lt_z (centre y) c.least.result (λ l. absurd (not_above t x y c.least.result s.turned h (simp to_z-of_z at c.least.ensures.a) (simp to_z-of_z at c.least.ensures.b) (simp to_z-of_z at c.least.ensures.c) l)) (λ l. l) in
    let bottom : centre y ≤ℤ c.greatest.result = by_lt_z c.greatest.result (centre y) (λ l. absurd (not_below t x y c.greatest.result s.turned h (simp to_z-of_z at c.greatest.ensures.a) (simp to_z-of_z at c.greatest.ensures.b) (simp to_z-of_z at c.greatest.ensures.c) l)) (λ l. l) in
    let from : c.row_from-first.result ≤ℤ pos y = c.row_from-first.ensures y (simp to_z-of_z top) in
    let after : pos y <ℤ c.row_after-after.result = c.row_after-after.ensures y (simp to_z-of_z bottom) in
    let low = simp to_z-of_z at c.within.ensures.value in
    let high = simp to_z-of_z at c.within-2.ensures.value in
    (omega (arith, ints, clamps, low, from), omega (arith, ints, clamps, high, after, b))
