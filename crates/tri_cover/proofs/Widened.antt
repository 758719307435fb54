-- Means in 128 bits are exact for every triangle.
use Rattle.std.proofs.Common.{◌≡◌, ℕ, ◌+◌, ◌*◌, ◌/◌, ◌%◌, ◌^◌, ◌<◌, ◌≤◌, true, ap, sym, ◌∙◌, arith, lit<, mul_assoc}
use Rattle.std.specs.Prelude.{ℤ, pos, ◌+ℤ◌, ◌-ℤ◌, ◌*ℤ◌, ◌≤ℤ◌, ◌<ℤ◌}
use Rattle.std.specs.Int.{int_div_euclid, int_rem_euclid}
use Rattle.std.proofs.lemmas.Int.{ints}
use Rattle.std.proofs.lemmas.Nat.{div-add-mod'}
use borrow.Author.Differences.{product_is}
use Rattle.gfx_model.specs.Number.{at_least_zero}
use Rattle.gfx_model.specs.Vertex.{Triangle}
use Rattle.gfx_model.specs.Raster.{ScreenVertex, edge, area, covers, weighted, weighted_number}
use Rattle.tri_cover.specs.declared.ramps.WideRamp.{WideRamp}
use Rattle.tri_cover.specs.Slope.{IsFloor, IsNearly, IsSamePlace}
use Rattle.tri_cover.specs.Widened.{wide_at, wide_whole, IsLowPart, IsWideSlope}
use Rattle.tri_cover.proofs.Barycentre.{swap_last}
use Rattle.tri_cover.proofs.Fixed.{floor_is, sum_times}
use Rattle.tri_cover.proofs.Slopes.{nearly_exact, rest_of, times_nat, whole_and_rest}
use Rattle.tri_cover.proofs.Lines.{sum_at, mean_floor}
use Rattle.tri_cover.proofs.Aligned.{mean_between}

-- ---- a slope by divisions

parts_are : (z q r n c k : ℤ) (h l : ℕ) → z ≡ q *ℤ n +ℤ r → r *ℤ pos (2 ^ 60) ≡ pos h *ℤ n +ℤ k → k *ℤ pos (2 ^ 44) ≡ pos l *ℤ n +ℤ c →
    z *ℤ pos (2 ^ 104) ≡ (q *ℤ pos (2 ^ 104) +ℤ pos h *ℤ pos (2 ^ 44) +ℤ pos l) *ℤ n +ℤ c
parts_are z q r n c k h l e f g =
    omega (
      arith,
      ints,
      ap (λ w. w *ℤ pos (2 ^ 104)) e,
      ap (λ w. w *ℤ pos (2 ^ 44)) f,
      g,
      sum_times (q *ℤ n) r (pos (2 ^ 104)),
      swap_last q n (pos (2 ^ 104)),
      sum_times (pos h *ℤ n) k (pos (2 ^ 44)),
      swap_last (pos h) n (pos (2 ^ 44)),
      times_nat r (2 ^ 60) (2 ^ 44),
      sum_times (q *ℤ pos (2 ^ 104) +ℤ pos h *ℤ pos (2 ^ 44)) (pos l) n,
      sum_times (q *ℤ pos (2 ^ 104)) (pos h *ℤ pos (2 ^ 44)) n,
    )

joined_turns : (q t : ℤ) (w h l f : ℕ) → q ≡ pos w +ℤ t *ℤ pos (2 ^ 24) → f ≡ (w * 2 ^ 104 + h * 2 ^ 44 + l) % 2 ^ 128 →
    q *ℤ pos (2 ^ 104) +ℤ pos h *ℤ pos (2 ^ 44) +ℤ pos l ≡ pos f +ℤ (t +ℤ pos ((w * 2 ^ 104 + h * 2 ^ 44 + l) / 2 ^ 128)) *ℤ pos (2 ^ 128)
joined_turns q t w h l f e g = omega (arith, ints, product_is, e, g)

whole_rest : (z : ℤ) (n r : ℕ) → 0 < n → pos r ≡ int_rem_euclid z (pos n) → z ≡ int_div_euclid z (pos n) *ℤ pos n +ℤ pos r
whole_rest z n r h e = whole_and_rest z n h ∙ ap (λ m. int_div_euclid z (pos n) *ℤ pos n +ℤ m) (sym e)

-- what the code of a slope computes
pub wide_slope_is : (z : ℤ) (n w r h k l c f : ℕ) → 0 < n →
    pos w ≡ int_rem_euclid (int_div_euclid z (pos n)) (pos (2 ^ 24)) → pos r ≡ int_rem_euclid z (pos n) → r * 2 ^ 60 ≡ h * n + k → k * 2 ^ 44 ≡ l * n + c → c < n →
    f ≡ (w * 2 ^ 104 + h * 2 ^ 44 + l) % 2 ^ 128 → IsWideSlope z f n
wide_slope_is z n w r h k l c f pn hw hr hh hl hc hf =
    let q = int_div_euclid z (pos n) in
    let turned = rest_of q (2 ^ 24) (lit< tt) in
    let low : q ≡ pos w +ℤ turned.0 *ℤ pos (2 ^ 24) = turned.1 ∙ ap (λ m. m +ℤ turned.0 *ℤ pos (2 ^ 24)) (sym hw) in
    let fl : IsFloor z q n = floor_is z n pn in
    let whole : z ≡ q *ℤ pos n +ℤ pos r = whole_rest z n r pn hr in
    record {
      number = q *ℤ pos (2 ^ 104) +ℤ pos h *ℤ pos (2 ^ 44) +ℤ pos l;
      turns = turned.0 +ℤ pos ((w * 2 ^ 104 + h * 2 ^ 44 + l) / 2 ^ 128);
      low = joined_turns q turned.0 w h l f low hf;
      floor = record {
        rest = c;
        below = hc;
        is = parts_are z q (pos r) (pos n) (pos c) (pos k) h l whole (omega (arith, ints, product_is, hh)) (omega (arith, ints, product_is, hl));
      };
    }

-- ---- the value at a pixel

-- turns of 2^128 that are left out
wide_turns : (na nb nc ta tb tc : ℤ) (a b c x y start : ℕ) →
    na ≡ pos a +ℤ ta *ℤ pos (2 ^ 128) → nb ≡ pos b +ℤ tb *ℤ pos (2 ^ 128) → nc ≡ pos c +ℤ tc *ℤ pos (2 ^ 128) → start ≡ (a + 2 ^ 18) % 2 ^ 128 →
    na +ℤ pos (2 ^ 18) +ℤ nb *ℤ pos x +ℤ nc *ℤ pos y
    ≡ pos ((start + x * b + y * c) % 2 ^ 128) +ℤ (pos ((a + 2 ^ 18) / 2 ^ 128) +ℤ ta +ℤ tb *ℤ pos x +ℤ tc *ℤ pos y +ℤ pos ((start + x * b + y * c) / 2 ^ 128)) *ℤ pos (2 ^ 128)
wide_turns na nb nc ta tb tc a b c x y start ha hb hc hs =
    omega (
      arith,
      ints,
      product_is,
      ha,
      hs,
      ap (λ w. w *ℤ pos x) hb,
      ap (λ w. w *ℤ pos y) hc,
      sum_times (pos b) (tb *ℤ pos (2 ^ 128)) (pos x),
      sum_times (pos c) (tc *ℤ pos (2 ^ 128)) (pos y),
      swap_last tb (pos (2 ^ 128)) (pos x),
      swap_last tc (pos (2 ^ 128)) (pos y),
      sum_times (pos ((a + 2 ^ 18) / 2 ^ 128) +ℤ ta +ℤ tb *ℤ pos x +ℤ tc *ℤ pos y) (pos ((start + x * b + y * c) / 2 ^ 128)) (pos (2 ^ 128)),
      sum_times (pos ((a + 2 ^ 18) / 2 ^ 128) +ℤ ta +ℤ tb *ℤ pos x) (tc *ℤ pos y) (pos (2 ^ 128)),
      sum_times (pos ((a + 2 ^ 18) / 2 ^ 128) +ℤ ta) (tb *ℤ pos x) (pos (2 ^ 128)),
      sum_times (pos ((a + 2 ^ 18) / 2 ^ 128)) ta (pos (2 ^ 128)),
      div-add-mod' (start + x * b + y * c) (2 ^ 128),
      div-add-mod' (a + 2 ^ 18) (2 ^ 128),
    )

whole_part : (a : ℕ) (turns v : ℤ) → IsFloor (pos a +ℤ turns *ℤ pos (2 ^ 128)) v (2 ^ 104) → v ≡ pos (a / 2 ^ 104) +ℤ turns *ℤ pos 16777216
whole_part a turns v f = omega (arith, ints, product_is, f.is, f.below)

-- a floor is near
near_floor : (z f : ℤ) (n : ℕ) → IsFloor (z *ℤ pos (2 ^ 104)) f n → IsNearly z f n (2 ^ 104)
near_floor z f n h = omega (arith, ints, h.is, h.below)

-- the mean of three values at a pixel
pub wide_is : (t : Triangle ScreenVertex) (u v w : ℤ) (n x y : ℕ) (ea eb ec ra rb rc da db dc : ℤ) (r : WideRamp) (a : ℕ) →
    pos n ≡ area t → 0 < n → n < 2 ^ 60 → x < 65536 → y < 65536 →
    ea ≡ edge t.b t.c 0 0 → eb ≡ edge t.c t.a 0 0 → ec ≡ edge t.a t.b 0 0 →
    ra ≡ pos 0 -ℤ pos 256 *ℤ (t.c.y -ℤ t.b.y) → rb ≡ pos 0 -ℤ pos 256 *ℤ (t.a.y -ℤ t.c.y) → rc ≡ pos 0 -ℤ pos 256 *ℤ (t.b.y -ℤ t.a.y) →
    da ≡ pos 256 *ℤ (t.c.x -ℤ t.b.x) → db ≡ pos 256 *ℤ (t.a.x -ℤ t.c.x) → dc ≡ pos 256 *ℤ (t.b.x -ℤ t.a.x) →
    IsWideSlope (ea *ℤ u +ℤ eb *ℤ v +ℤ ec *ℤ w) a n → IsWideSlope (ra *ℤ u +ℤ rb *ℤ v +ℤ rc *ℤ w) r.right n → IsWideSlope (da *ℤ u +ℤ db *ℤ v +ℤ dc *ℤ w) r.down n →
    r.start ≡ (a + 2 ^ 18) % 2 ^ 128 → IsLowPart (wide_whole r x y) (weighted t x y u v w)
wide_is t u v w n x y ea eb ec ra rb rc da db dc r a h pn few hx hy hea heb hec hra hrb hrc hda hdb hdc sa sb sc st =
    let k = pos x -ℤ pos 0 in
    let j = pos y -ℤ pos 0 in
    let kx : k ≡ pos x = omega (arith, ints) in
    let jy : j ≡ pos y = omega (arith, ints) in
    let f = mean_floor t u v w ((ea *ℤ u +ℤ eb *ℤ v +ℤ ec *ℤ w) +ℤ (ra *ℤ u +ℤ rb *ℤ v +ℤ rc *ℤ w) *ℤ k +ℤ (da *ℤ u +ℤ db *ℤ v +ℤ dc *ℤ w) *ℤ j) n x y h pn
    (sum_at t u v w x y 0 0 ea eb ec ra rb rc da db dc hea heb hec hra hrb hrc hda hdb hdc) in
    let g = nearly_exact (ea *ℤ u +ℤ eb *ℤ v +ℤ ec *ℤ w) (ra *ℤ u +ℤ rb *ℤ v +ℤ rc *ℤ w) (da *ℤ u +ℤ db *ℤ v +ℤ dc *ℤ w) sa.number sb.number sc.number (weighted t x y u v w) k j n (2 ^ 104) (2 ^ 17) pn
    (near_floor (ea *ℤ u +ℤ eb *ℤ v +ℤ ec *ℤ w) sa.number n sa.floor) (near_floor (ra *ℤ u +ℤ rb *ℤ v +ℤ rc *ℤ w) sb.number n sb.floor) (near_floor (da *ℤ u +ℤ db *ℤ v +ℤ dc *ℤ w) sc.number n sc.floor) (omega (arith, ints, hx, hy)) (omega (arith, few)) f in
    let turned = wide_turns sa.number sb.number sc.number sa.turns sb.turns sc.turns a r.right r.down x y r.start sa.low sb.low sc.low st in
    let turns = pos ((a + 2 ^ 18) / 2 ^ 128) +ℤ sa.turns +ℤ sb.turns *ℤ pos x +ℤ sc.turns *ℤ pos y +ℤ pos ((r.start + x * r.right + y * r.down) / 2 ^ 128) in
    let here : sa.number +ℤ pos (2 ^ 18) +ℤ sb.number *ℤ k +ℤ sc.number *ℤ j ≡ sa.number +ℤ pos (2 ^ 18) +ℤ sb.number *ℤ pos x +ℤ sc.number *ℤ pos y = (λ i. sa.number +ℤ pos (2 ^ 18) +ℤ sb.number *ℤ kx i +ℤ sc.number *ℤ jy i) in
    (turns, whole_part (wide_at r x y) turns (weighted t x y u v w) (record { rest = g.rest; below = g.below; is = sym turned ∙ sym here ∙ g.is }))

-- ---- depths and places

low_depth : (a : ℕ) (v k : ℤ) → v ≡ pos a +ℤ k *ℤ pos 16777216 → a < 16777216 → pos 0 ≤ℤ v → v ≤ℤ pos 16777215 → pos a ≡ v
low_depth a v k e b l h = omega (arith, ints, product_is, e)

pub wide_depth_is : (t : Triangle ScreenVertex) (u v w x y : ℕ) (r : WideRamp) → pos 0 <ℤ area t → covers t x y ≡ true → u ≤ 16777215 → v ≤ 16777215 → w ≤ 16777215 →
    IsLowPart (wide_whole r x y) (weighted t x y (pos u) (pos v) (pos w)) → wide_whole r x y ≡ weighted_number t x y u v w
wide_depth_is t u v w x y r p c hu hv hw f =
    let b = mean_between t x y (pos u) (pos v) (pos w) (pos 0) (pos 16777215) p c (omega (arith, ints)) (omega (arith, ints)) (omega (arith, ints)) (omega (arith, ints, hu)) (omega (arith, ints, hv)) (omega (arith, ints, hw)) in
    ap at_least_zero (low_depth (wide_whole r x y) (weighted t x y (pos u) (pos v) (pos w)) f.0 f.1 (omega arith) b.0 b.1)

pub wide_place_is : (a : ℕ) (v : ℤ) → IsLowPart a v → IsSamePlace a v
wide_place_is a v f = (pos 256 *ℤ f.0, omega (arith, ints, product_is, f.1))

-- ---- ramps of 64 bits

times_scale : (x a m : ℕ) → x * (a * m) ≡ x * a * m
times_scale x a m = sym (mul_assoc x a m)

pub depth_widened : (s r d x y : ℕ) → (s * 2 ^ 64 + x * (r * 2 ^ 64) + y * (d * 2 ^ 64)) % 2 ^ 128 / 2 ^ 104 ≡ (s + x * r + y * d) % 2 ^ 64 / 2 ^ 40
depth_widened s r d x y = omega (arith, times_scale x r (2 ^ 64), times_scale y d (2 ^ 64))

pub place_widened : (s r d x y : ℕ) → (s * 2 ^ 56 + x * (r * 2 ^ 56) + y * (d * 2 ^ 56)) % 2 ^ 128 / 2 ^ 104 % 65536 ≡ (s + x * r + y * d) % 2 ^ 64 / 2 ^ 48
place_widened s r d x y = omega (arith, times_scale x r (2 ^ 56), times_scale y d (2 ^ 56))

pub same_place : (a b : ℕ) (v : ℤ) → a % 65536 ≡ b → IsSamePlace b v → IsSamePlace a v
same_place a b v e f = (f.0 -ℤ pos (a / 65536), omega (arith, ints, product_is, e, f.1))
