-- A mean by what two values differ from the first.
use Rattle.std.proofs.Common.{◌≡◌, ℕ, ◌+◌, ◌*◌, ◌/◌, ◌%◌, ◌^◌, ◌<◌, ap, sym, ◌∙◌, refl, arith}
use Rattle.std.specs.Prelude.{ℤ, pos, ◌+ℤ◌, ◌-ℤ◌, ◌*ℤ◌}
use Rattle.std.proofs.Common.{lit<}
use Rattle.std.specs.Int.{int_rem_euclid}
use Rattle.tri_cover.proofs.Slopes.{rest_of}
use Rattle.std.proofs.lemmas.Int.{ints}
use Rattle.std.proofs.lemmas.Nat.{div-add-mod'}
use borrow.Author.Differences.{product_is}
use lib.IntN.{*ℤ_comm, *ℤ-zero}
use Rattle.gfx_model.specs.Vertex.{Triangle}
use Rattle.gfx_model.specs.Raster.{ScreenVertex, edge, area, weighted}
use Rattle.tri_cover.specs.declared.ramps.Ramp.{Ramp}
use Rattle.tri_cover.specs.Slope.{IsFloor, IsRamp}
use Rattle.tri_cover.proofs.Half.{times_difference}
use Rattle.tri_cover.proofs.Barycentre.{weights_sum}
use Rattle.tri_cover.proofs.Fixed.{one_floor, sum_times}
use Rattle.tri_cover.proofs.Lines.{mean_floor}

sum_raised : (a b c u v w : ℤ) → a *ℤ u +ℤ b *ℤ v +ℤ c *ℤ w ≡ a *ℤ pos 0 +ℤ b *ℤ (v -ℤ u) +ℤ c *ℤ (w -ℤ u) +ℤ (a +ℤ b +ℤ c) *ℤ u
sum_raised a b c u v w = omega (arith, ints, *ℤ-zero a, times_difference b v u, times_difference c w u, sum_times (a +ℤ b) c u, sum_times a b u)

-- the mean is raised by the first value
weighted_raised : (t : Triangle ScreenVertex) (u v w : ℤ) (n x y : ℕ) → pos n ≡ area t → 0 < n → weighted t x y u v w ≡ weighted t x y (pos 0) (v -ℤ u) (w -ℤ u) +ℤ u
weighted_raised t u v w n x y h pn =
    let a = edge t.b t.c x y in
    let b = edge t.c t.a x y in
    let c = edge t.a t.b x y in
    let sum = a *ℤ u +ℤ b *ℤ v +ℤ c *ℤ w in
    let less = a *ℤ pos 0 +ℤ b *ℤ (v -ℤ u) +ℤ c *ℤ (w -ℤ u) in
    let whole : a +ℤ b +ℤ c ≡ pos n = weights_sum t x y ∙ sym h in
    let f : IsFloor sum (weighted t x y u v w) n = mean_floor t u v w sum n x y h pn refl in
    let g : IsFloor less (weighted t x y (pos 0) (v -ℤ u) (w -ℤ u)) n = mean_floor t (pos 0) (v -ℤ u) (w -ℤ u) less n x y h pn refl in
    let up : IsFloor sum (weighted t x y (pos 0) (v -ℤ u) (w -ℤ u) +ℤ u) n =
    record {
      rest = g.rest;
      below = g.below;
      is = omega (arith, ints, sum_raised a b c u v w, g.is, ap (λ z. z *ℤ u) whole, *ℤ_comm (pos n) u, sum_times (weighted t x y (pos 0) (v -ℤ u) (w -ℤ u)) u (pos n));
    } in
    one_floor sum (weighted t x y u v w) (weighted t x y (pos 0) (v -ℤ u) (w -ℤ u) +ℤ u) n f up

zero_sum : (a b c : ℤ) → a *ℤ pos 0 +ℤ b *ℤ pos 0 +ℤ c *ℤ pos 0 ≡ pos 0
zero_sum a b c = omega (arith, ints, *ℤ-zero a, *ℤ-zero b, *ℤ-zero c)

-- the mean of zeros
pub zero_ramp : (t : Triangle ScreenVertex) (n s x y : ℕ) → pos n ≡ area t → 0 < n → 0 < s → IsRamp (record { start = 0; right = 0; down = 0 }) t (pos 0) (pos 0) (pos 0) s x y
zero_ramp t n s x y h pn ps =
    let f : IsFloor (pos 0) (weighted t x y (pos 0) (pos 0) (pos 0)) n = mean_floor t (pos 0) (pos 0) (pos 0) (pos 0) n x y h pn (zero_sum (edge t.b t.c x y) (edge t.c t.a x y) (edge t.a t.b x y)) in
    let g : IsFloor (pos 0) (pos 0) n = record { rest = 0; below = pn; is = omega (arith, ints) } in
    let none : weighted t x y (pos 0) (pos 0) (pos 0) ≡ pos 0 = one_floor (pos 0) (weighted t x y (pos 0) (pos 0) (pos 0)) (pos 0) n f g in
    let at : (0 + x * 0 + y * 0) % 2 ^ 64 ≡ 0 = omega arith in
    record {
      turns = pos 0;
      floor = record { rest = 0; below = ps; is = omega (arith, ints, product_is, at, ap (λ z. z *ℤ pos s) none) };
    }

-- a ramp whose start is raised
pub raised_ramp : (t : Triangle ScreenVertex) (u v w : ℤ) (n s x y : ℕ) (q r : Ramp) (k : ℤ) → pos n ≡ area t → 0 < n →
    pos q.start ≡ pos r.start +ℤ u *ℤ pos s +ℤ k *ℤ pos (2 ^ 64) → q.right ≡ r.right → q.down ≡ r.down →
    IsRamp r t (pos 0) (v -ℤ u) (w -ℤ u) s x y → IsRamp q t u v w s x y
raised_ramp t u v w n s x y q r k h pn hs hr hd f =
    let a = q.start + x * q.right + y * q.down in
    let b = r.start + x * r.right + y * r.down in
    record {
      turns = f.turns -ℤ pos (b / 2 ^ 64) -ℤ k +ℤ pos (a / 2 ^ 64);
      floor = record {
        rest = f.floor.rest;
        below = f.floor.below;
        is = omega (
          arith,
          ints,
          product_is,
          hs,
          f.floor.is,
          ap (λ m. x * m) hr,
          ap (λ m. y * m) hd,
          div-add-mod' a (2 ^ 64),
          div-add-mod' b (2 ^ 64),
          ap (λ z. z *ℤ pos s) (weighted_raised t u v w n x y h pn),
          sum_times (weighted t x y (pos 0) (v -ℤ u) (w -ℤ u)) u (pos s),
        );
      };
    }

-- a start that is raised in 64 bits
pub start_raised : (a b : ℕ) (z : ℤ) → pos b ≡ int_rem_euclid z (pos (2 ^ 64)) → (k : ℤ) × (pos ((a + b) % 2 ^ 64) ≡ pos a +ℤ z +ℤ k *ℤ pos (2 ^ 64))
start_raised a b z e =
    let turned = rest_of z (2 ^ 64) (lit< tt) in
    (pos 0 -ℤ turned.0 -ℤ pos ((a + b) / 2 ^ 64), omega (arith, ints, product_is, e, turned.1, div-add-mod' (a + b) (2 ^ 64)))
