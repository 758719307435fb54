-- Sides that are walked from row to row.
use Rattle.std.proofs.Common.{FitsSigned, w64, ◌≡◌, ℕ, zero, suc, ◌+◌, ◌*◌, ◌%◌, ◌^◌, ◌<◌, ◌≤◌, refl, ap, arith}
use Rattle.std.specs.Prelude.{ℤ, pos, negsuc, ◌+ℤ◌, ◌*ℤ◌, ◌≤ℤ◌, ◌<ℤ◌, unsigned_abs}
use Rattle.std.specs.Int.{int_div_euclid, int_rem_euclid}
use Rattle.std.proofs.lemmas.Int.{ints, unsigned_abs-mul}
use Rattle.std.proofs.lemmas.Nat.{mul-lt}
use Rattle.std.proofs.Math.Nat.{div-le_self, mod-lt}
use lib.IntN.{*ℤ_comm, *ℤ-one}
use Rattle.tri_cover.specs.Seen.{IsNear}
use Rattle.tri_cover.specs.Walked.{reached_at, IsDivisor, IsDivided, IsSide}
use Rattle.tri_cover.specs.declared.edges.Edge.{Edge}
use Rattle.tri_cover.specs.declared.sides.Side.{Side}
use Rattle.tri_cover.specs.declared.stepping.Quotient.{Quotient}
use Rattle.tri_cover.proofs.Half.{times_sum}
use Rattle.tri_cover.proofs.Settled.{floor_here}
use Rattle.tri_cover.proofs.Slopes.{whole_and_rest}

-- a number is its floor times the divisor, and its rest
pub floor_and_rest : (z n : ℤ) → pos 0 <ℤ n → z ≡ int_div_euclid z n *ℤ n +ℤ int_rem_euclid z n
floor_and_rest z (pos n) h = whole_and_rest z n (omega (arith, ints, h))
floor_and_rest z (negsuc n) h = absurd (omega (arith, ints, h))

-- a rest is not negative
pub rest_low : (z n : ℤ) → pos 0 <ℤ n → pos 0 ≤ℤ int_rem_euclid z n
rest_low (pos a) (pos n) h = omega (arith, ints)
rest_low (negsuc a) (pos n) h = omega (arith, ints)
rest_low z (negsuc n) h = absurd (omega (arith, ints, h))

-- a rest is below the divisor
pub rest_high : (z n : ℤ) → pos 0 <ℤ n → int_rem_euclid z n <ℤ n
rest_high (pos a) (pos n) h =
    let b : a % n < n = mod-lt a (omega (arith, ints, h)) in
    omega (arith, ints, b)
rest_high (negsuc a) (pos n) h =
    let b : a % n < n = mod-lt a (omega (arith, ints, h)) in
    omega (arith, ints, b)
rest_high z (negsuc n) h = absurd (omega (arith, ints, h))

pub floor_near : (z n : ℤ) → pos 0 <ℤ n → unsigned_abs (int_div_euclid z n) ≤ unsigned_abs z
floor_near (pos a) (pos n) h = div-le_self a n
floor_near (negsuc a) (pos n) h = omega (arith, div-le_self a n)
floor_near z (negsuc n) h = absurd (omega (arith, ints, h))

-- a quotient is the floor
pub floor_of_divided : (q : Quotient) (z n : ℤ) → IsDivided q z n → q.whole ≡ int_div_euclid z n
floor_of_divided q z n h = floor_here z q.whole n q.rest h.is h.rest.low h.rest.high

divided_near : (q : Quotient) (z n : ℤ) → IsDivided q z n → unsigned_abs q.whole ≤ unsigned_abs z
divided_near q z n h = rw (floor_of_divided q z n h) (floor_near z n (omega (arith, ints, h.rest.low, h.rest.high)))

-- the quotient of a level edge is its value
pub level_divided : (q : Quotient) (z n : ℤ) → IsDivided q z n → n ≡ pos 1 → q.whole ≡ z
level_divided q z n h e = omega (arith, ints, h.is, h.rest.low, h.rest.high, e, ap (λ m. q.whole *ℤ m) e, *ℤ-one q.whole)

-- the divisors of edges are small
pub divisor_near : (n fall : ℤ) → IsDivisor n fall → unsigned_abs fall < 2 ^ 29 → unsigned_abs n < 2 ^ 60
divisor_near n (pos zero) h k = rw (h.level refl) (omega arith)
divisor_near n (pos (suc f)) h k = rw (h.right (omega (arith, ints))) (omega (arith, ints, k))
divisor_near n (negsuc f) h k = rw (h.left (omega (arith, ints))) (omega (arith, ints, k))

-- the value of an edge in a row is not far from 0
reach_near : (e : Edge) (y : ℕ) → IsNear e → y < 2 ^ 16 → unsigned_abs (reached_at e y) < 2 ^ 62
reach_near e y h k =
    let p : unsigned_abs (e.rise *ℤ pos (256 * y)) < 2 ^ 29 * 2 ^ 29 = rw unsigned_abs-mul (mul-lt (unsigned_abs e.rise) (256 * y) (2 ^ 29) (2 ^ 29) h.rise (omega (arith, k))) in
    omega (arith, ints, h.base, p)

-- nor is its quotient
pub side_near : (s : Side) (e : Edge) (y : ℕ) → IsNear e → y < 2 ^ 16 → IsSide s e y → unsigned_abs s.here.whole < 2 ^ 62
side_near s e y h k i = omega (arith, divided_near s.here (reached_at e y) s.divisor i.here, reach_near e y h k)

gained_near : (r : ℤ) → unsigned_abs r < 2 ^ 29 → unsigned_abs (pos 256 *ℤ r) < 2 ^ 40
gained_near r h = omega (arith, ints, h)

-- nor the quotient of its gain
pub gain_near : (s : Side) (e : Edge) (y : ℕ) → IsNear e → IsSide s e y → unsigned_abs s.gain.whole < 2 ^ 40
gain_near s e y h i = omega (arith, divided_near s.gain (pos 256 *ℤ e.rise) s.divisor i.gain, gained_near e.rise h.rise)

-- one row on, an edge has gained
pub row_on : (e : Edge) (y : ℕ) → reached_at e y +ℤ pos 256 *ℤ e.rise ≡ reached_at e (y + 1)
row_on e y =
    let h : pos (256 * y) +ℤ pos 256 ≡ pos (256 * (y + 1)) = omega (arith, ints) in
    omega (arith, ints, times_sum e.rise (pos (256 * y)) (pos 256), *ℤ_comm e.rise (pos 256), ap (λ n. e.rise *ℤ n) h)

-- a floor times its divisor fits where the number and the divisor are small
pub product_fits : (z n : ℤ) → unsigned_abs z < 2 ^ 62 → unsigned_abs n < 2 ^ 60 → pos 0 <ℤ n → FitsSigned w64 (int_div_euclid z n *ℤ n)
product_fits z n hz hn h = omega (arith, ints, floor_and_rest z n h, rest_low z n h, rest_high z n h, hz, hn)
