-- Ramps whose whole part stands in the upper bits of 64.
use Rattle.std.proofs.Common.{◌≡◌, ℕ, ◌+◌, ◌*◌, ◌/◌, ◌%◌, ◌^◌, ◌<◌, ◌≤◌, ap, sym, ◌∙◌, arith, true, subst}
use Rattle.std.specs.Prelude.{ℤ, pos, ◌+ℤ◌, ◌*ℤ◌, ◌≤ℤ◌, ◌<ℤ◌}
use Rattle.std.specs.Int.{int_div_euclid}
use Rattle.std.proofs.lemmas.Int.{ints}
use Rattle.std.proofs.lemmas.Nat.{div-add-mod'}
use borrow.Author.Differences.{product_is}
use Rattle.gfx_model.specs.Number.{at_least_zero}
use Rattle.gfx_model.specs.Vertex.{Triangle}
use Rattle.gfx_model.specs.Raster.{ScreenVertex, edge, area, covers, weighted, weighted_number}
use Rattle.tri_cover.specs.declared.ramps.Ramp.{Ramp}
use Rattle.tri_cover.specs.Slope.{IsFloor, IsRamp, IsSamePlace, ramp_at}
use Rattle.tri_cover.proofs.Barycentre.{covered_weighs, weights_sum}
use Rattle.tri_cover.proofs.Means.{mean_from, mean_to, same_divisor}

times_eight : (x a : ℕ) → x * (8 * a % 2 ^ 64) + x * (8 * a / 2 ^ 64) * 2 ^ 64 ≡ 8 * (x * a)
times_eight x a = omega (arith, ap (λ n. x * n) (div-add-mod' (8 * a) (2 ^ 64)))

-- a ramp shifted by three bits has its value shifted by three bits
pub shifted_at : (s r d x y : ℕ) → ((8 * s % 2 ^ 64) + x * (8 * r % 2 ^ 64) + y * (8 * d % 2 ^ 64)) % 2 ^ 64 ≡ 8 * ((s + x * r + y * d) % 2 ^ 64) % 2 ^ 64
shifted_at s r d x y = omega (arith, times_eight x r, times_eight y d)

-- a mean of a covered pixel lies between the bounds of its values
pub mean_between : (t : Triangle ScreenVertex) (x y : ℕ) (u v w l h : ℤ) → pos 0 <ℤ area t → covers t x y ≡ true →
    l ≤ℤ u → l ≤ℤ v → l ≤ℤ w → u ≤ℤ h → v ≤ℤ h → w ≤ℤ h → (l ≤ℤ weighted t x y u v w) × (weighted t x y u v w ≤ℤ h)
mean_between t x y u v w l h p c lu lv lw hu hv hw =
    let g = covered_weighs t x y c in
    let q = same_divisor (area t) p in
    let a = edge t.b t.c x y in
    let b = edge t.c t.a x y in
    let d = edge t.a t.b x y in
    let sum = a *ℤ u +ℤ b *ℤ v +ℤ d *ℤ w in
    let same : int_div_euclid sum (area t) ≡ weighted t x y u v w = ap (int_div_euclid sum) (sym q) in (
      subst (λ z. l ≤ℤ z) same (mean_from a b d u v w (area t) l g.a g.b g.c (sym (weights_sum t x y)) p lu lv lw),
      subst (λ z. z ≤ℤ h) same (mean_to a b d u v w (area t) h g.a g.b g.c (sym (weights_sum t x y)) p hu hv hw),
    )

-- the upper 8, 24 and 16 bits
pub top_8 : (a : ℕ) (turns v : ℤ) → IsFloor (pos a +ℤ turns *ℤ pos (2 ^ 64)) v (2 ^ 53) → pos 0 ≤ℤ v → v ≤ℤ pos 255 → pos (8 * a % 2 ^ 64 / 2 ^ 56) ≡ v
top_8 a turns v f l h = omega (arith, ints, product_is, f.is, f.below)

pub top_24 : (a : ℕ) (turns v : ℤ) → IsFloor (pos a +ℤ turns *ℤ pos (2 ^ 64)) v (2 ^ 37) → pos 0 ≤ℤ v → v ≤ℤ pos 16777215 → pos (8 * a % 2 ^ 64 / 2 ^ 40) ≡ v
top_24 a turns v f l h = omega (arith, ints, product_is, f.is, f.below)

pub top_16 : (a : ℕ) (turns v : ℤ) → IsFloor (pos a +ℤ turns *ℤ pos (2 ^ 64)) v (2 ^ 45) → (k : ℤ) × (v ≡ pos (8 * a % 2 ^ 64 / 2 ^ 48) +ℤ k *ℤ pos 65536)
top_16 a turns v f = (pos (8 * a / 2 ^ 64) +ℤ pos 8 *ℤ turns, omega (arith, ints, product_is, f.is, f.below))

-- q is r shifted by three bits
pub record IsShifted (q r : Ramp) : Type 0 where
  pub start : q.start ≡ 8 * r.start % 2 ^ 64
  pub right : q.right ≡ 8 * r.right % 2 ^ 64
  pub down : q.down ≡ 8 * r.down % 2 ^ 64

ramp_shifted : (q r : Ramp) (x y : ℕ) → IsShifted q r → ramp_at q x y ≡ 8 * ramp_at r x y % 2 ^ 64
ramp_shifted q r x y h = (λ i. (h.start i + x * h.right i + y * h.down i) % 2 ^ 64) ∙ shifted_at r.start r.right r.down x y

area_positive : (t : Triangle ScreenVertex) (n : ℕ) → pos n ≡ area t → 0 < n → pos 0 <ℤ area t
area_positive t n e h = subst (λ z. pos 0 <ℤ z) e (omega (arith, ints, h))

pub channel_is : (t : Triangle ScreenVertex) (u v w n x y : ℕ) (q r : Ramp) → IsShifted q r → pos n ≡ area t → 0 < n → covers t x y ≡ true →
    u ≤ 255 → v ≤ 255 → w ≤ 255 → IsRamp r t (pos u) (pos v) (pos w) (2 ^ 53) x y → ramp_at q x y / 2 ^ 56 ≡ weighted_number t x y u v w
channel_is t u v w n x y q r s e pn c hu hv hw f =
    let b = mean_between t x y (pos u) (pos v) (pos w) (pos 0) (pos 255) (area_positive t n e pn) c (omega (arith, ints)) (omega (arith, ints)) (omega (arith, ints)) (omega (arith, ints, hu)) (omega (arith, ints, hv)) (omega (arith, ints, hw)) in
    let found : pos (ramp_at q x y / 2 ^ 56) ≡ weighted t x y (pos u) (pos v) (pos w) =
    ap (λ k. pos (k / 2 ^ 56)) (ramp_shifted q r x y s) ∙ top_8 (ramp_at r x y) f.turns (weighted t x y (pos u) (pos v) (pos w)) f.floor b.0 b.1 in
    ap at_least_zero found

pub depth_is : (t : Triangle ScreenVertex) (u v w n x y : ℕ) (q r : Ramp) → IsShifted q r → pos n ≡ area t → 0 < n → covers t x y ≡ true →
    u ≤ 16777215 → v ≤ 16777215 → w ≤ 16777215 → IsRamp r t (pos u) (pos v) (pos w) (2 ^ 37) x y → ramp_at q x y / 2 ^ 40 ≡ weighted_number t x y u v w
depth_is t u v w n x y q r s e pn c hu hv hw f =
    let b = mean_between t x y (pos u) (pos v) (pos w) (pos 0) (pos 16777215) (area_positive t n e pn) c (omega (arith, ints)) (omega (arith, ints)) (omega (arith, ints)) (omega (arith, ints, hu)) (omega (arith, ints, hv)) (omega (arith, ints, hw)) in
    let found : pos (ramp_at q x y / 2 ^ 40) ≡ weighted t x y (pos u) (pos v) (pos w) =
    ap (λ k. pos (k / 2 ^ 40)) (ramp_shifted q r x y s) ∙ top_24 (ramp_at r x y) f.turns (weighted t x y (pos u) (pos v) (pos w)) f.floor b.0 b.1 in
    ap at_least_zero found

pub place_is : (t : Triangle ScreenVertex) (u v w : ℤ) (x y : ℕ) (q r : Ramp) → IsShifted q r → IsRamp r t u v w (2 ^ 45) x y → IsSamePlace (ramp_at q x y / 2 ^ 48) (weighted t x y u v w)
place_is t u v w x y q r s f =
    let h = top_16 (ramp_at r x y) f.turns (weighted t x y u v w) f.floor in
    (h.0, h.1 ∙ ap (λ k. pos (k / 2 ^ 48) +ℤ h.0 *ℤ pos 65536) (sym (ramp_shifted q r x y s)))
