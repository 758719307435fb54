-- The fields of a word that is a sum of numbers at their places.
use Rattle.std.proofs.Common.{ℕ, ◌≡◌, ◌+◌, ◌*◌, ◌/◌, ◌^◌, ◌<◌, ◌≤◌, ◌⊎◌, inl, inr, Bool, true, false, refl, sym, ◌∙◌, arith}
use Rattle.std.specs.Prelude.{◌&&◌, ◌||◌, ◌==◌, not, nat_le}
use Rattle.std.specs.Cmp.Derive.{both_true}
use Rattle.std.proofs.lemmas.Bool.{le-leb, leb-true, eqb-true, true≢false, false_from_ne_true}
use Rattle.std.proofs.lemmas.Nat.{shr_high, mod_low}
use Rattle.gfx_model.specs.Number.{bits_at}
use Rattle.gfx_model.specs.Words.{is_state_word, is_blended, color_source, color_destination, alpha_source, alpha_destination, has_factors_together, has_reserved_bits_clear, is_factor}

-- the number between what stands above it and what stands below it
pub field : (w above f low k n : ℕ) → w ≡ (above * 2 ^ n + f) * 2 ^ k + low → low < 2 ^ k → f < 2 ^ n → bits_at w k n ≡ f
field w above f low k n e l r = rw (e, shr_high (above * 2 ^ n + f) k low l) (mod_low above n f r)

-- the numbers of a state word
pub record Numbers : Type 0 where
  pub mask : ℕ
  pub test : ℕ
  pub color_from : ℕ
  pub color_onto : ℕ
  pub alpha_from : ℕ
  pub alpha_onto : ℕ
  pub color_joined : ℕ
  pub alpha_joined : ℕ
  pub culled : ℕ
  pub depth : ℕ
  pub primitive : ℕ

-- the four factors, and all of blending
abbrev pub all_factors : Numbers → ℕ
all_factors n = n.color_from + 16 * n.color_onto + 256 * n.alpha_from + 4096 * n.alpha_onto

abbrev pub blending : Numbers → ℕ
blending n = all_factors n + 65536 * n.color_joined + 524288 * n.alpha_joined

-- the word of these numbers
abbrev pub total : Numbers → ℕ
total n = n.mask + 16 * n.test + 4096 * blending n + 68719476736 * n.culled + 274877906944 * n.depth + 281474976710656 * n.primitive

-- they are those that a state may have
pub record Fit (n : Numbers) : Type 0 where
  pub mask : n.mask ≤ 15
  pub test : n.test ≤ 8
  pub color_from : n.color_from ≤ 11
  pub color_onto : n.color_onto ≤ 11
  pub alpha_from : n.alpha_from ≤ 11
  pub alpha_onto : n.alpha_onto ≤ 11
  pub color_joined : n.color_joined ≤ 4
  pub alpha_joined : n.alpha_joined ≤ 4
  pub culled : n.culled ≤ 2
  pub depth : n.depth ≤ 1
  pub primitive : n.primitive ≤ 1

-- the fields of a word are these numbers, and the other bits are 0
pub record Has (w : ℕ) (n : Numbers) : Type 0 where
  pub mask : bits_at w 0 4 ≡ n.mask
  pub test : bits_at w 4 4 ≡ n.test
  pub unused : bits_at w 8 4 ≡ 0
  pub factors : bits_at w 12 16 ≡ all_factors n
  pub color_from : bits_at w 12 4 ≡ n.color_from
  pub color_onto : bits_at w 16 4 ≡ n.color_onto
  pub alpha_from : bits_at w 20 4 ≡ n.alpha_from
  pub alpha_onto : bits_at w 24 4 ≡ n.alpha_onto
  pub color_joined : bits_at w 28 3 ≡ n.color_joined
  pub alpha_joined : bits_at w 31 3 ≡ n.alpha_joined
  pub unused_too : bits_at w 34 2 ≡ 0
  pub culled : bits_at w 36 2 ≡ n.culled
  pub depth : bits_at w 38 1 ≡ n.depth
  pub unused_also : bits_at w 39 9 ≡ 0
  pub primitive : bits_at w 48 3 ≡ n.primitive
  pub no_more : w / 2 ^ 51 ≡ 0

-- what stands above a bit, and what stands below it
abbrev from_48 : Numbers → ℕ
from_48 n = n.primitive

abbrev from_38 : Numbers → ℕ
from_38 n = n.depth + 1024 * from_48 n

abbrev from_36 : Numbers → ℕ
from_36 n = n.culled + 4 * from_38 n

abbrev from_31 : Numbers → ℕ
from_31 n = n.alpha_joined + 32 * from_36 n

abbrev from_28 : Numbers → ℕ
from_28 n = n.color_joined + 8 * from_31 n

abbrev from_24 : Numbers → ℕ
from_24 n = n.alpha_onto + 16 * from_28 n

abbrev from_20 : Numbers → ℕ
from_20 n = n.alpha_from + 16 * from_24 n

abbrev from_16 : Numbers → ℕ
from_16 n = n.color_onto + 16 * from_20 n

abbrev from_12 : Numbers → ℕ
from_12 n = n.color_from + 16 * from_16 n

abbrev from_4 : Numbers → ℕ
from_4 n = n.test + 256 * from_12 n

abbrev below_4 : Numbers → ℕ
below_4 n = n.mask

abbrev below_12 : Numbers → ℕ
below_12 n = below_4 n + 16 * n.test

abbrev below_16 : Numbers → ℕ
below_16 n = below_12 n + 4096 * n.color_from

abbrev below_20 : Numbers → ℕ
below_20 n = below_16 n + 65536 * n.color_onto

abbrev below_24 : Numbers → ℕ
below_24 n = below_20 n + 1048576 * n.alpha_from

abbrev below_28 : Numbers → ℕ
below_28 n = below_24 n + 16777216 * n.alpha_onto

abbrev below_31 : Numbers → ℕ
below_31 n = below_28 n + 268435456 * n.color_joined

abbrev below_36 : Numbers → ℕ
below_36 n = below_31 n + 2147483648 * n.alpha_joined

abbrev below_38 : Numbers → ℕ
below_38 n = below_36 n + 68719476736 * n.culled

abbrev below_48 : Numbers → ℕ
below_48 n = below_38 n + 274877906944 * n.depth

pub has : (w : ℕ) (n : Numbers) → w ≡ total n → Fit n → Has w n
has w n e f = record {
  mask = field w (from_4 n) (n.mask) (0) 0 4 (omega (arith, e)) (omega arith) (omega (arith, f.mask));
  test = field w (16 * from_12 n) (n.test) (below_4 n) 4 4 (omega (arith, e)) (omega (arith, f.mask)) (omega (arith, f.test));
  unused = field w (from_12 n) (0) (below_4 n + 16 * n.test) 8 4 (omega (arith, e)) (omega (arith, f.mask, f.test)) (omega arith);
  factors = field w (from_28 n) (all_factors n) (below_12 n) 12 16 (omega (arith, e)) (omega (arith, f.mask, f.test)) (omega (arith, f.color_from, f.color_onto, f.alpha_from, f.alpha_onto));
  color_from = field w (from_16 n) (n.color_from) (below_12 n) 12 4 (omega (arith, e)) (omega (arith, f.mask, f.test)) (omega (arith, f.color_from));
  color_onto = field w (from_20 n) (n.color_onto) (below_16 n) 16 4 (omega (arith, e)) (omega (arith, f.mask, f.test, f.color_from)) (omega (arith, f.color_onto));
  alpha_from = field w (from_24 n) (n.alpha_from) (below_20 n) 20 4 (omega (arith, e)) (omega (arith, f.mask, f.test, f.color_from, f.color_onto)) (omega (arith, f.alpha_from));
  alpha_onto = field w (from_28 n) (n.alpha_onto) (below_24 n) 24 4 (omega (arith, e)) (omega (arith, f.mask, f.test, f.color_from, f.color_onto, f.alpha_from)) (omega (arith, f.alpha_onto));
  color_joined = field w (from_31 n) (n.color_joined) (below_28 n) 28 3 (omega (arith, e)) (omega (arith, f.mask, f.test, f.color_from, f.color_onto, f.alpha_from, f.alpha_onto)) (omega (arith, f.color_joined));
  alpha_joined = field w (4 * from_36 n) (n.alpha_joined) (below_31 n) 31 3 (omega (arith, e)) (omega (arith, f.mask, f.test, f.color_from, f.color_onto, f.alpha_from, f.alpha_onto, f.color_joined)) (omega (arith, f.alpha_joined));
  unused_too = field w (from_36 n) (0) (below_36 n) 34 2 (omega (arith, e)) (omega (arith, f.mask, f.test, f.color_from, f.color_onto, f.alpha_from, f.alpha_onto, f.color_joined, f.alpha_joined)) (omega arith);
  culled = field w (from_38 n) (n.culled) (below_36 n) 36 2 (omega (arith, e)) (omega (arith, f.mask, f.test, f.color_from, f.color_onto, f.alpha_from, f.alpha_onto, f.color_joined, f.alpha_joined)) (omega (arith, f.culled));
  depth = field w (512 * from_48 n) (n.depth) (below_38 n) 38 1 (omega (arith, e)) (omega (arith, f.mask, f.test, f.color_from, f.color_onto, f.alpha_from, f.alpha_onto, f.color_joined, f.alpha_joined, f.culled)) (omega (arith, f.depth));
  unused_also = field w (from_48 n) (0) (below_48 n) 39 9 (omega (arith, e)) (omega (arith, f.mask, f.test, f.color_from, f.color_onto, f.alpha_from, f.alpha_onto, f.color_joined, f.alpha_joined, f.culled, f.depth)) (omega arith);
  primitive = field w (0) (n.primitive) (below_48 n) 48 3 (omega (arith, e)) (omega (arith, f.mask, f.test, f.color_from, f.color_onto, f.alpha_from, f.alpha_onto, f.color_joined, f.alpha_joined, f.culled, f.depth)) (omega (arith, f.primitive));
  no_more = omega (arith, f.mask, f.test, f.color_from, f.color_onto, f.alpha_from, f.alpha_onto, f.color_joined, f.alpha_joined, f.culled, f.depth, f.primitive, e);
}

-- without blending the four factors are 0, and with it each is one
abbrev pub Together : Numbers → Type 0
Together n = (all_factors n ≡ 0) ⊎ ((1 ≤ n.color_from) × (1 ≤ n.color_onto) × (1 ≤ n.alpha_from) × (1 ≤ n.alpha_onto))

pub either_true : (a b : Bool) → b ≡ true → (a || b) ≡ true
either_true true b e = refl
either_true false b e = e

first_true : (a b : Bool) → a ≡ true → (a || b) ≡ true
first_true a b e = rw e refl

is_zero : (m : ℕ) → m ≡ 0 → (m == 0) ≡ true
is_zero m e = rw e refl

pub at_most : (m x most : ℕ) → m ≡ x → x ≤ most → nat_le m most ≡ true
at_most m x most e h = rw e (le-leb x most h)

pub at_least : (m x least : ℕ) → m ≡ x → least ≤ x → nat_le least m ≡ true
at_least m x least e h = rw e (le-leb least x h)

a_factor : (m x : ℕ) → m ≡ x → 1 ≤ x → x ≤ 11 → is_factor m ≡ true
a_factor m x e l h = rw e (both_true (le-leb 1 x l) (le-leb x 11 h))

together : (w : ℕ) (n : Numbers) → Has w n → Fit n → Together n → has_factors_together w ≡ true
together w n h f (inl none) = first_true _ _ (is_zero _ (h.factors ∙ none))
together w n h f (inr (a, b, c, d)) =
    either_true _ _ (both_true (both_true (both_true
    (a_factor _ _ h.color_from a f.color_from) (a_factor _ _ h.color_onto b f.color_onto))
    (a_factor _ _ h.alpha_from c f.alpha_from)) (a_factor _ _ h.alpha_onto d f.alpha_onto))

reserved : (w : ℕ) (n : Numbers) → Has w n → has_reserved_bits_clear w ≡ true
reserved w n h = both_true (both_true (both_true (is_zero _ h.unused) (is_zero _ h.unused_too)) (is_zero _ h.unused_also)) (is_zero _ h.no_more)

-- a word of such numbers is admitted
pub admitted : (w : ℕ) (n : Numbers) → Has w n → Fit n → Together n → is_state_word w ≡ true
admitted w n h f t =
    both_true (both_true (both_true (both_true (both_true (both_true
    (at_most _ _ 8 h.test f.test) (together w n h f t))
    (at_most _ _ 4 h.color_joined f.color_joined)) (at_most _ _ 4 h.alpha_joined f.alpha_joined))
    (at_most _ _ 2 h.culled f.culled)) (at_most _ _ 1 h.primitive f.primitive)) (reserved w n h)

-- and a word that is admitted and blends has no factor 0
left_true : (a b : Bool) → (a && b) ≡ true → a ≡ true
left_true true b e = refl
left_true false b e = e

right_true : (a b : Bool) → (a && b) ≡ true → b ≡ true
right_true true b e = e
right_true false b e = absurd (true≢false (sym e))

one_true : (a b : Bool) → (a || b) ≡ true → a ≡ false → b ≡ true
one_true true b e f = absurd (true≢false f)
one_true false b e f = e

is_together : (w : ℕ) → is_state_word w ≡ true → has_factors_together w ≡ true
is_together w e = right_true _ _ (left_true _ _ (left_true _ _ (left_true _ _ (left_true _ _ (left_true _ _ e)))))

not_true : (a : Bool) → not a ≡ true → a ≡ false
not_true true e = sym e
not_true false e = refl

no_zero_factors : (w : ℕ) → is_blended w ≡ true → (bits_at w 12 16 == 0) ≡ false
no_zero_factors w e = false_from_ne_true _ (λ z.
    true≢false (sym (is_zero (bits_at w 12 4) (omega (arith, eqb-true (bits_at w 12 16) 0 z))) ∙ not_true _ e))

at_least_one : (m : ℕ) → is_factor m ≡ true → 1 ≤ m
at_least_one m e = leb-true 1 m (left_true _ _ e)

pub factors_told : (w : ℕ) → is_state_word w ≡ true → is_blended w ≡ true
    → (1 ≤ color_source w) × (1 ≤ color_destination w) × (1 ≤ alpha_source w) × (1 ≤ alpha_destination w)
factors_told w e b =
    let all : (is_factor (color_source w) && is_factor (color_destination w) && is_factor (alpha_source w) && is_factor (alpha_destination w)) ≡ true
    = one_true _ _ (is_together w e) (no_zero_factors w b) in (
      at_least_one _ (left_true _ _ (left_true _ _ (left_true _ _ all))),
      at_least_one _ (right_true _ _ (left_true _ _ (left_true _ _ all))),
      at_least_one _ (right_true _ _ (left_true _ _ all)),
      at_least_one _ (right_true _ _ all),
    )
