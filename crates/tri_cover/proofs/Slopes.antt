-- Values by fixed point, where the start and the steps are only nearly floors.
use Rattle.std.proofs.Common.{◌≡◌, ℕ, ◌+◌, ◌-◌, ◌*◌, ◌^◌, ◌<◌, ◌≤◌, ap, sym, ◌∙◌, refl, arith}
use Rattle.std.specs.Prelude.{ℤ, pos, negsuc, ◌+ℤ◌, ◌-ℤ◌, ◌*ℤ◌, ◌≤ℤ◌, unsigned_abs}
use Rattle.std.proofs.Common.{◌/◌, ◌%◌, lit<}
use Rattle.std.specs.Int.{int_div_euclid, int_rem_euclid}
use Rattle.std.proofs.lemmas.Nat.{pow-add, div-add-mod'}
use Rattle.std.proofs.Math.Nat.{mod-lt}
use Rattle.std.proofs.lemmas.Int.{ints, unsigned_abs-mul}
use Rattle.std.proofs.Common.{mul_comm, subst, pow_pos}
use Rattle.std.proofs.Math.Nat.{mul-le-mul_left, mul-le-mul_right, lt_of_mul-lt-mul_left}
use borrow.Author.Differences.{product_is}
use lib.IntN.{*ℤ_comm}
use Rattle.tri_cover.specs.Slope.{IsFloor, IsNearly, IsSlope}
use Rattle.tri_cover.proofs.Half.{times_sum}
use Rattle.tri_cover.proofs.Barycentre.{difference_times, swap_last}
use Rattle.tri_cover.proofs.Fixed.{floor_is, sum_times, small, room_below}

natural : (w : ℤ) → pos 0 ≤ℤ w → (r : ℕ) × (w ≡ pos r)
natural (pos r) h = (r, refl)
natural (negsuc r) h = absurd (omega (arith, ints, h))

scaled_nearly : (z d e f g h v k j a b c : ℤ) (n s m t r : ℕ) →
    z *ℤ pos s ≡ f *ℤ pos n +ℤ a → d *ℤ pos s ≡ g *ℤ pos n +ℤ b → e *ℤ pos s ≡ h *ℤ pos n +ℤ c →
    z +ℤ d *ℤ k +ℤ e *ℤ j ≡ v *ℤ pos n +ℤ pos r → pos (m * n) -ℤ (a +ℤ b *ℤ k +ℤ c *ℤ j) ≡ pos t →
    (f +ℤ pos m +ℤ g *ℤ k +ℤ h *ℤ j -ℤ v *ℤ pos s) *ℤ pos n ≡ pos (r * s + t)
scaled_nearly z d e f g h v k j a b c n s m t r ha hb hc hv ht =
    omega (
      arith,
      ints,
      ha,
      ht,
      ap (λ w. w *ℤ k) hb,
      ap (λ w. w *ℤ j) hc,
      ap (λ w. w *ℤ pos s) hv,
      difference_times (f +ℤ pos m +ℤ g *ℤ k +ℤ h *ℤ j) (v *ℤ pos s) (pos n),
      sum_times (f +ℤ pos m +ℤ g *ℤ k) (h *ℤ j) (pos n),
      sum_times (f +ℤ pos m) (g *ℤ k) (pos n),
      sum_times f (pos m) (pos n),
      swap_last g k (pos n),
      swap_last h j (pos n),
      swap_last v (pos s) (pos n),
      sum_times (g *ℤ pos n) b k,
      sum_times (h *ℤ pos n) c j,
      swap_last d (pos s) k,
      swap_last e (pos s) j,
      sum_times (z +ℤ d *ℤ k) (e *ℤ j) (pos s),
      sum_times z (d *ℤ k) (pos s),
      sum_times (v *ℤ pos n) (pos r) (pos s),
    )

error_within : (a b c k j : ℤ) (n m : ℕ) → unsigned_abs a < 2 * n → unsigned_abs b < 2 * n → unsigned_abs c < 2 * n → 1 + unsigned_abs k + unsigned_abs j ≤ m → unsigned_abs (a +ℤ b *ℤ k +ℤ c *ℤ j) < 2 * m * n
error_within a b c k j n m ha hb hc h =
    let bk : unsigned_abs (b *ℤ k) ≤ 2 * n * unsigned_abs k = rw unsigned_abs-mul (omega (arith, mul-le-mul_right (unsigned_abs k) hb)) in
    let cj : unsigned_abs (c *ℤ j) ≤ 2 * n * unsigned_abs j = rw unsigned_abs-mul (omega (arith, mul-le-mul_right (unsigned_abs j) hc)) in
    omega (arith, ints, bk, cj, ha, mul-le-mul_right (2 * n) h)

-- where start and steps are nearly right, so many steps lose less than a whole
pub nearly_exact : (z d e f g h v k j : ℤ) (n s m : ℕ) → 0 < n → IsNearly z f n s → IsNearly d g n s → IsNearly e h n s →
    1 + unsigned_abs k + unsigned_abs j ≤ m → 4 * m * n ≤ s → IsFloor (z +ℤ d *ℤ k +ℤ e *ℤ j) v n →
    IsFloor (f +ℤ pos (2 * m) +ℤ g *ℤ k +ℤ h *ℤ j) v s
nearly_exact z d e f g h v k j n s m pn hf hg hh hk hs hv =
    let a = z *ℤ pos s -ℤ f *ℤ pos n in
    let b = d *ℤ pos s -ℤ g *ℤ pos n in
    let c = e *ℤ pos s -ℤ h *ℤ pos n in
    let ea : z *ℤ pos s ≡ f *ℤ pos n +ℤ a = omega (arith, ints) in
    let eb : d *ℤ pos s ≡ g *ℤ pos n +ℤ b = omega (arith, ints) in
    let ec : e *ℤ pos s ≡ h *ℤ pos n +ℤ c = omega (arith, ints) in
    let lost = error_within a b c k j n m hf hg hh hk in
    let room : (t : ℕ) × (pos (2 * m * n) -ℤ (a +ℤ b *ℤ k +ℤ c *ℤ j) ≡ pos t) = natural (pos (2 * m * n) -ℤ (a +ℤ b *ℤ k +ℤ c *ℤ j)) (omega (arith, ints, lost)) in
    let less : room.0 < s = omega (arith, ints, lost, room.1, hs) in
    let found : (q : ℕ) × ((f +ℤ pos (2 * m) +ℤ g *ℤ k +ℤ h *ℤ j -ℤ v *ℤ pos s ≡ pos q) × (q < s)) =
    small (f +ℤ pos (2 * m) +ℤ g *ℤ k +ℤ h *ℤ j -ℤ v *ℤ pos s) n (hv.rest * s + room.0) s pn
    (scaled_nearly z d e f g h v k j a b c n s (2 * m) room.0 hv.rest ea eb ec hv.is room.1)
    (room_below hv.rest s n room.0 hv.below less) in
    record { rest = found.0; below = found.1.1; is = omega (arith, ints, found.1.0) }

-- ---- a quotient by an inverse

pub times_nat : (z : ℤ) (a b : ℕ) → z *ℤ pos (a * b) ≡ (z *ℤ pos a) *ℤ pos b
times_nat z a b = *ℤ_comm z (pos (a * b)) ∙ sym (swap_last (pos a) z (pos b)) ∙ ap (λ w. w *ℤ pos b) (*ℤ_comm (pos a) z)

error_times : (z f : ℤ) (n r p q s k : ℕ) → r * n + p ≡ q * s → z *ℤ pos r ≡ f *ℤ pos q +ℤ pos k →
    (z *ℤ pos s -ℤ f *ℤ pos n) *ℤ pos q ≡ pos (k * n) +ℤ z *ℤ pos p
error_times z f n r p q s k h e =
    omega (
      arith,
      ints,
      ap (λ w. w *ℤ pos n) e,
      ap (λ w. z *ℤ pos w) h,
      difference_times (z *ℤ pos s) (f *ℤ pos n) (pos q),
      swap_last z (pos s) (pos q),
      swap_last f (pos n) (pos q),
      sum_times (f *ℤ pos q) (pos k) (pos n),
      times_sum z (pos (r * n)) (pos p),
      times_nat z q s,
      times_nat z r n,
    )

-- a number times a whole number above 0 is near where the product is
near_from_times : (w : ℤ) (q m : ℕ) → unsigned_abs (w *ℤ pos q) < q * m → unsigned_abs w < m
near_from_times w q m h =
    let e : unsigned_abs (w *ℤ pos q) ≡ q * unsigned_abs w = unsigned_abs-mul w (pos q) ∙ mul_comm (unsigned_abs w) q in
    lt_of_mul-lt-mul_left q (subst (λ k. k < q * m) e h)

-- z times s by n, from an inverse r of n: q is the scale that is left out again
pub nearly_by_inverse : (z f : ℤ) (n r p q s k : ℕ) → 0 < n → 0 < q → r * n + p ≡ q * s → p < n → z *ℤ pos r ≡ f *ℤ pos q +ℤ pos k → k < q → unsigned_abs z ≤ q → IsNearly z f n s
nearly_by_inverse z f n r p q s k pn pq h hp e hk hz =
    let w = error_times z f n r p q s k h e in
    let first : k * n < q * n = omega (arith, mul-le-mul_right n hk) in
    let second : unsigned_abs (z *ℤ pos p) ≤ q * p = rw unsigned_abs-mul (omega (arith, mul-le-mul_right p hz)) in
    let third : q * p < q * n = omega (arith, mul-le-mul_left q hp) in
    let all : unsigned_abs (pos (k * n) +ℤ z *ℤ pos p) < q * (2 * n) = omega (arith, ints, first, second, third) in
    near_from_times (z *ℤ pos s -ℤ f *ℤ pos n) q (2 * n) (rw w all)

pub rest_of : (g : ℤ) (m : ℕ) → 0 < m → (turns : ℤ) × (g ≡ int_rem_euclid g (pos m) +ℤ turns *ℤ pos m)
rest_of (pos a) m h = (pos (a / m), omega (arith, ints, product_is, div-add-mod' a m))
rest_of (negsuc a) m h = (int_div_euclid (negsuc a) (pos m), omega (arith, ints, product_is, div-add-mod' a m, mod-lt a h))

pub whole_and_rest : (z : ℤ) (n : ℕ) → 0 < n → z ≡ int_div_euclid z (pos n) *ℤ pos n +ℤ int_rem_euclid z (pos n)
whole_and_rest (pos a) n h = omega (arith, ints, product_is, div-add-mod' a n)
whole_and_rest (negsuc a) n h = omega (arith, ints, product_is, div-add-mod' a n, mod-lt a h)

-- what the code of a slope computes
pub slope_is : (z : ℤ) (f n r dropped bits scale : ℕ) → dropped + bits ≡ scale → 0 < n → r * n ≤ 2 ^ scale → 2 ^ scale < r * n + n → unsigned_abs z ≤ 2 ^ dropped →
    pos f ≡ int_rem_euclid (int_div_euclid (z *ℤ pos r) (pos (2 ^ dropped))) (pos (2 ^ 64)) → IsSlope z f n (2 ^ bits)
slope_is z f n r dropped bits scale e pn low high hz hf =
    let q = 2 ^ dropped in
    let pq : 0 < 2 ^ dropped = pow_pos dropped in
    let g = int_div_euclid (z *ℤ pos r) (pos q) in
    let fl : IsFloor (z *ℤ pos r) g q = floor_is (z *ℤ pos r) q pq in
    let both : 2 ^ scale ≡ q * 2 ^ bits = ap (λ k. 2 ^ k) (sym e) ∙ pow-add 2 dropped bits in
    let whole : r * n + (2 ^ scale - r * n) ≡ q * 2 ^ bits = omega (arith, low, both) in
    let turned = rest_of g (2 ^ 64) (lit< tt) in
    record {
      number = g;
      turns = turned.0;
      low = turned.1 ∙ ap (λ w. w +ℤ turned.0 *ℤ pos (2 ^ 64)) (sym hf);
      near = nearly_by_inverse z g n r (2 ^ scale - r * n) q (2 ^ bits) fl.rest pn pq whole (omega (arith, high, pn, low)) fl.is fl.below hz;
    }

all_bits : (bits scale : ℕ) → 62 ≤ scale → bits ≤ 62 → scale - bits ≤ 62 → 2 ^ (62 - (scale - bits)) * 2 ^ (scale - 62) ≡ 2 ^ bits
all_bits bits scale few small room =
    let whole : 62 - (scale - bits) + (scale - 62) ≡ bits = omega (arith, few, small, room) in
    sym (pow-add 2 (62 - (scale - bits)) (scale - 62)) ∙ ap (λ k. 2 ^ k) whole

times_times : (z w : ℤ) (a b c : ℕ) → w ≡ z *ℤ pos a → a * b ≡ c → w *ℤ pos b ≡ z *ℤ pos c
times_times z w a b c e h = ap (λ k. k *ℤ pos b) (e ∙ *ℤ_comm z (pos a)) ∙ swap_last (pos a) z (pos b) ∙ ap (λ k. pos k *ℤ z) h ∙ *ℤ_comm (pos c) z

-- the same where z is raised to 62 bits
pub filled_slope : (z w : ℤ) (f n r bits scale : ℕ) → 62 ≤ scale → bits ≤ 62 → scale - bits ≤ 62 → w ≡ z *ℤ pos (2 ^ (62 - (scale - bits))) → 0 < n → r * n ≤ 2 ^ scale → 2 ^ scale < r * n + n → unsigned_abs w ≤ 2 ^ 62 →
    pos f ≡ int_rem_euclid (int_div_euclid (w *ℤ pos r) (pos (2 ^ 62))) (pos (2 ^ 64)) → IsSlope z f n (2 ^ bits)
filled_slope z w f n r bits scale few small room e pn low high hw hf =
    let s = slope_is w f n r 62 (scale - 62) scale (omega (arith, few)) pn low high hw hf in
    let times : w *ℤ pos (2 ^ (scale - 62)) ≡ z *ℤ pos (2 ^ bits) = times_times z w (2 ^ (62 - (scale - bits))) (2 ^ (scale - 62)) (2 ^ bits) e (all_bits bits scale few small room) in
    record { number = s.number; turns = s.turns; low = s.low; near = rw times at s.near }

-- a number of so many bits is raised to 62 bits
pub filled_near : (z : ℤ) (bits : ℕ) → bits ≤ 62 → unsigned_abs z ≤ 2 ^ bits → unsigned_abs (z *ℤ pos (2 ^ (62 - bits))) ≤ 2 ^ 62
filled_near z bits few h =
    let whole : bits + (62 - bits) ≡ 62 = omega (arith, few) in
    let e : 2 ^ bits * 2 ^ (62 - bits) ≡ 2 ^ 62 = sym (pow-add 2 bits (62 - bits)) ∙ ap (λ k. 2 ^ k) whole in
    rw unsigned_abs-mul (omega (arith, mul-le-mul_right (2 ^ (62 - bits)) h, e))

-- a quotient by two divisions, the second of the first one's rest
pub by_parts_low : (m d s : ℕ) → (m / d * s + m % d * s / d) * d ≤ m * s
by_parts_low m d s = omega (arith, ap (λ k. k * s) (div-add-mod' m d), div-add-mod' (m % d * s) d)

pub by_parts_high : (m d s : ℕ) → 0 < d → m * s < (m / d * s + m % d * s / d) * d + d
by_parts_high m d s h = omega (arith, ap (λ k. k * s) (div-add-mod' m d), div-add-mod' (m % d * s) d, mod-lt (m % d * s) h)
