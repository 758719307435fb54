-- Triangles of one colour or one depth.
use Rattle.std.proofs.Common.{◌≡◌, ℕ, refl, ap, sym, ◌∙◌, arith}
use Rattle.std.specs.Prelude.{ℤ, pos, negsuc, ◌<ℤ◌, ◌+ℤ◌, ◌*ℤ◌}
use Rattle.std.specs.Int.{int_div_euclid}
use Rattle.std.proofs.lemmas.Int.{ints}
use Rattle.gfx_model.specs.Number.{at_least_zero}
use Rattle.gfx_model.specs.Vertex.{Triangle}
use Rattle.gfx_model.specs.Raster.{ScreenVertex, area, edge, weighted, weighted_number}
use lib.IntN.{*ℤ_comm}
use Rattle.tri_cover.proofs.Half.{times_sum}
use Rattle.tri_cover.proofs.Barycentre.{weights_sum}
use Rattle.tri_cover.proofs.Means.{floor_low, floor_high, weighted_is}

-- the mean of equal values, by weights of any sign
even_mean : (p q r u n : ℤ) → n ≡ p +ℤ q +ℤ r → pos 0 <ℤ n → int_div_euclid (p *ℤ u +ℤ q *ℤ u +ℤ r *ℤ u) n ≡ u
even_mean p q r u (pos n) e h =
    let times : u *ℤ pos n ≡ u *ℤ (p +ℤ q +ℤ r) = ap (λ z. u *ℤ z) e in
    let same : p *ℤ u +ℤ q *ℤ u +ℤ r *ℤ u ≡ u *ℤ pos n = omega (arith, ints, times, times_sum u (p +ℤ q) r, times_sum u p q, *ℤ_comm u p, *ℤ_comm u q, *ℤ_comm u r) in
    let least = floor_low (p *ℤ u +ℤ q *ℤ u +ℤ r *ℤ u) u n (omega (arith, ints, h)) (omega (arith, ints, same)) in
    let most = floor_high (p *ℤ u +ℤ q *ℤ u +ℤ r *ℤ u) u n (omega (arith, ints, h)) (omega (arith, ints, same)) in
    omega (arith, ints, least, most)
even_mean p q r u (negsuc n) e h = absurd (omega (arith, ints, h))

weighted_one : (t : Triangle ScreenVertex) (x y : ℕ) (u : ℤ) → pos 0 <ℤ area t → weighted t x y u u u ≡ u
weighted_one t x y u h =
    let p = edge t.b t.c x y in
    let q = edge t.c t.a x y in
    let r = edge t.a t.b x y in
    sym (weighted_is t x y p q r (area t) u u u h refl refl refl refl) ∙ even_mean p q r u (area t) (sym (weights_sum t x y)) h

pub number_one : (t : Triangle ScreenVertex) (x y a b c : ℕ) → pos 0 <ℤ area t → b ≡ a → c ≡ a → a ≡ weighted_number t x y a b c
number_one t x y a b c h eb ec =
    sym ((λ i. weighted_number t x y a (eb i) (ec i)) ∙ ap at_least_zero (weighted_one t x y (pos a) h))
