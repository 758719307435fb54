-- Bounds in 32 bits.
use Rattle.std.proofs.Common.{◌≡◌, ℕ, zero, suc, ◌+◌, ◌-◌, ◌*◌, ◌/◌, ◌%◌, ◌^◌, ◌<◌, ◌≤◌, ◌==◌, Bool, true, false, cond, if◌then◌else◌, List, [], ◌∷◌, map, length, slice_index, min, max, Fits, w32, refl, ap, sym, subst, ◌∙◌, arith}
use Rattle.std.specs.Prelude.{ℤ, pos, negsuc, ◌+ℤ◌, ◌-ℤ◌, ◌*ℤ◌, ◌≤ℤ◌, ◌<ℤ◌, ◌&&◌, nat_le, nat_lt}
use Rattle.std.specs.Cmp.{both_ways}
use Rattle.std.proofs.lemmas.Int.{ints}
use Rattle.std.proofs.lemmas.Bool.Decides.{nat_tests}
use Rattle.std.proofs.lemmas.Bool.{cases_lt, le-ltb, and_parts, and_from, le-leb, leb-true, lt-ltb, ltb-true}
use native.Mathlib.Nat.{mul-add}
use lib.Lanes.{zip2, sel_l, top, Each1}
use mathlib.Core.Logic.{inl, inr}
use borrow.Author.Differences.{product_is, true_is_le}
use Rattle.tri_cover.specs.Bounded.{bound_at, is_let, is_not_before, is_not_behind, IsCut}
use Rattle.tri_cover.specs.Shortened.{short_at, IsShort, AreShort, left_end, right_end, short_span, IsFour, IsByFour}
use Rattle.tri_cover.specs.declared.bounds.Bound.{Bound}
use Rattle.tri_cover.specs.declared.bounds.Bounds.{Bounds}
use Rattle.tri_cover.specs.declared.shorts.Short.{Short}
use Rattle.tri_cover.specs.declared.shorts.Shorts.{Shorts}
use lib.IntN.{*ℤ_comm}
use Rattle.tri_cover.proofs.Half.{times_difference}
use Rattle.tri_cover.proofs.Fixed.{sum_times}
use Rattle.tri_cover.proofs.Settled.{no_step}
use Rattle.tri_cover.proofs.Ends.{stays_between, turned}

-- ---- lanes

-- what holds of each of the four lanes
pub below_four : (P : ℕ → Type 0) → P 0 → P 1 → P 2 → P 3 → (j : ℕ) → j < 4 → P j
below_four P p0 p1 p2 p3 zero h = p0
below_four P p0 p1 p2 p3 (suc zero) h = p1
below_four P p0 p1 p2 p3 (suc (suc zero)) h = p2
below_four P p0 p1 p2 p3 (suc (suc (suc zero))) h = p3
below_four P p0 p1 p2 p3 (suc (suc (suc (suc n)))) h = absurd (omega arith)

-- what holds of each list of four elements
pub four_lanes : (P : List ℕ → Type 0) → ((a b c d : ℕ) → P (a ∷ b ∷ c ∷ d ∷ [])) → (xs : List ℕ) → length xs ≡ 4 → P xs
four_lanes P p (a ∷ b ∷ c ∷ d ∷ []) h = p a b c d
four_lanes P p [] h = absurd (omega arith)
four_lanes P p (a ∷ []) h = absurd (omega arith)
four_lanes P p (a ∷ b ∷ []) h = absurd (omega arith)
four_lanes P p (a ∷ b ∷ c ∷ []) h = absurd (omega arith)
four_lanes P p (a ∷ b ∷ c ∷ d ∷ e ∷ xs) h = absurd (omega arith)

moved_sum : (a s i : ℕ) → ((a + s * i) % 2 ^ 32 + s * 4 % 2 ^ 32) % 2 ^ 32 ≡ (a + s * (i + 4)) % 2 ^ 32
moved_sum a s i = omega (arith, mul-add s i 4)

-- a bound four rows on
pub four_on : (s : Short) (here by next : List ℕ) (k : ℕ) → IsFour here s k → IsByFour by s → ((j : ℕ) → j < 4 → slice_index next j ≡ (slice_index here j + slice_index by j) % 2 ^ 32) → IsFour next s (k + 4)
four_on s here by next k h b e j l =
    let place : k + j + 4 ≡ k + 4 + j = omega arith in
    e j l ∙ (λ i. (h j l i + b j l i) % 2 ^ 32) ∙ moved_sum s.at s.step (k + j) ∙ ap (λ i. short_at s i) place

-- ---- a bound in 32 bits

-- its number around 2^32
wrapped : (at step m : ℤ) (a s k v : ℕ) → pos a ≡ at +ℤ pos (2 ^ 31) → step ≡ pos s +ℤ m *ℤ pos (2 ^ 32) → pos v ≡ at +ℤ step *ℤ pos k +ℤ pos (2 ^ 31) → v < 2 ^ 32 → (a + s * k) % 2 ^ 32 ≡ v
wrapped at step m a s k v ea es ev b =
    let small : pos s *ℤ pos k ≡ pos (s * k) = omega (arith, ints, product_is) in
    let all : step *ℤ pos k ≡ pos (s * k) +ℤ (m *ℤ pos k) *ℤ pos (2 ^ 32) = ap (λ z. z *ℤ pos k) es ∙ sum_times (pos s) (m *ℤ pos (2 ^ 32)) (pos k) ∙ (λ i. small i +ℤ turned m (2 ^ 32) k i) in
    omega (arith, ints, ea, ev, all, b)

before_is : (end : ℤ) (v x : ℕ) → end ≡ pos 256 *ℤ (pos v -ℤ pos (2 ^ 31)) → is_not_before end x ≡ nat_le 2048 (v / 2 ^ 20 + x)
before_is end v x e = both_ways _ _
    (λ p. le-leb 2048 (v / 2 ^ 20 + x) (omega (arith, ints, e, p)))
    (λ p. let q : 2048 ≤ v / 2 ^ 20 + x = leb-true 2048 (v / 2 ^ 20 + x) p in sym (true_is_le (pos 0) (end +ℤ pos (2 ^ 28 * x)) (omega (arith, ints, e, q))))

behind_is : (end : ℤ) (v x : ℕ) → end ≡ pos 256 *ℤ (pos v -ℤ pos (2 ^ 31)) → is_not_behind end x ≡ nat_le (x + 2048) (v / 2 ^ 20)
behind_is end v x e = both_ways _ _
    (λ p. le-leb (x + 2048) (v / 2 ^ 20) (omega (arith, ints, e, p)))
    (λ p. let q : x + 2048 ≤ v / 2 ^ 20 = leb-true (x + 2048) (v / 2 ^ 20) p in sym (true_is_le (pos (2 ^ 28 * x)) end (omega (arith, ints, e, q))))

-- a number that is not below 0 is one of the others
number_of : (z : ℤ) → pos 0 ≤ℤ z → (v : ℕ) × (pos v ≡ z)
number_of (pos v) h = (v, refl)
number_of (negsuc v) h = absurd (omega (arith, ints, h))

-- a bound that has no finer parts and stays near
pub is_short : (b : Bound) (s : Short) (at step m : ℤ) → b.at ≡ at *ℤ pos 256 → b.step ≡ step *ℤ pos 256 → pos s.at ≡ at +ℤ pos (2 ^ 31) → step ≡ pos s.step +ℤ m *ℤ pos (2 ^ 32) →
    ((k : ℕ) → k < 32 → (pos 0 ≤ℤ (at +ℤ step *ℤ pos k +ℤ pos (2 ^ 31))) × ((at +ℤ step *ℤ pos k +ℤ pos (2 ^ 31)) <ℤ pos (2 ^ 32))) → IsShort s b
is_short b s at step m ea es sa ss near k x few low =
    let here = near k few in
    let n = number_of (at +ℤ step *ℤ pos k +ℤ pos (2 ^ 31)) here.0 in
    let v = n.0 in
    let is : pos v ≡ at +ℤ step *ℤ pos k +ℤ pos (2 ^ 31) = n.1 in
    let small : v < 2 ^ 32 = omega (arith, ints, is, here.1) in
    let same : short_at s k ≡ v = wrapped at step m s.at s.step k v sa ss is small in
    let moved : b.step *ℤ pos k ≡ (step *ℤ pos k) *ℤ pos 256 = ap (λ z. z *ℤ pos k) es ∙ turned step 256 k in
    let end : bound_at b k ≡ pos 256 *ℤ (pos v -ℤ pos (2 ^ 31)) = omega (arith, ints, ea, moved, is) in
    (before_is (bound_at b k) v x end ∙ ap (λ i. nat_le 2048 (i / 2 ^ 20 + x)) (sym same), behind_is (bound_at b k) v x end ∙ ap (λ i. nat_le (x + 2048) (i / 2 ^ 20)) (sym same))

-- a bound that lets all columns pass
pub free_short : (b : Bound) (s : Short) → s.at ≡ 4294967295 → s.step ≡ 0 → ((k x : ℕ) → x < 65536 → (is_not_before (bound_at b k) x ≡ true) × (is_not_behind (bound_at b k) x ≡ true)) → IsShort s b
free_short b s ea es free k x few low =
    let passes = free k x (omega (arith, low)) in
    let all : short_at s k ≡ 4294967295 = (λ i. (ea i + es i * k) % 2 ^ 32) ∙ omega arith in
    (passes.0 ∙ sym (le-leb 2048 (short_at s k / 2 ^ 20 + x) (omega (arith, all))), passes.1 ∙ sym (le-leb (x + 2048) (short_at s k / 2 ^ 20) (omega (arith, all, low))))

less_times : (z : ℤ) (n : ℕ) → (pos 0 -ℤ z) *ℤ pos n ≡ pos 0 -ℤ z *ℤ pos n
less_times z n =
    let none : pos n *ℤ pos 0 ≡ pos 0 = omega (arith, ints, product_is) in
    *ℤ_comm (pos 0 -ℤ z) (pos n) ∙ times_difference (pos n) (pos 0) z ∙ omega (arith, ints, none, *ℤ_comm (pos n) z)

-- a number that stays near at both ends of 32 rows
pub near_between : (at step : ℤ) → pos 0 ≤ℤ (at +ℤ pos (2 ^ 31)) → (at +ℤ pos (2 ^ 31)) <ℤ pos (2 ^ 32) → pos 0 ≤ℤ (at +ℤ step *ℤ pos 31 +ℤ pos (2 ^ 31)) → (at +ℤ step *ℤ pos 31 +ℤ pos (2 ^ 31)) <ℤ pos (2 ^ 32) →
    (k : ℕ) → k < 32 → (pos 0 ≤ℤ (at +ℤ step *ℤ pos k +ℤ pos (2 ^ 31))) × ((at +ℤ step *ℤ pos k +ℤ pos (2 ^ 31)) <ℤ pos (2 ^ 32))
near_between at step a b c d k h =
    let low : pos 0 ≤ℤ (at +ℤ pos (2 ^ 31) +ℤ step *ℤ pos k) = stays_between (at +ℤ pos (2 ^ 31)) step 31 k a (omega (arith, ints, c)) (omega (arith, h)) in
    let minus : (n : ℕ) → (pos 0 -ℤ step) *ℤ pos n ≡ pos 0 -ℤ step *ℤ pos n = λ n. less_times step n in
    let high : pos 0 ≤ℤ (pos (2 ^ 31) -ℤ pos 1 -ℤ at +ℤ (pos 0 -ℤ step) *ℤ pos k) = stays_between (pos (2 ^ 31) -ℤ pos 1 -ℤ at) (pos 0 -ℤ step) 31 k (omega (arith, ints, b)) (omega (arith, ints, d, minus 31)) (omega (arith, h)) in
    (omega (arith, ints, low), omega (arith, ints, high, minus k))

-- ---- the columns of a row

same_test : (p q : Bool) → (p ≡ true → q ≡ true) → (q ≡ true → p ≡ true) → p ≡ q
same_test true q f g = sym (f refl)
same_test false true f g = g refl
same_test false false f g = refl

-- the columns between the ends that bounds in 32 bits have
ends_are : (l o r q first after x : ℕ) → after ≤ 2048 →
    (nat_le (left_end l o first after) x && nat_lt x (right_end r q (left_end l o first after) after)) ≡
    ((nat_le first x && nat_lt x after) && ((nat_le 2048 (l / 2 ^ 20 + x) && nat_le 2048 (o / 2 ^ 20 + x)) && (nat_le (x + 2048) (r / 2 ^ 20) && nat_le (x + 2048) (q / 2 ^ 20))))
ends_are l o r q first after x few =
    let from = left_end l o first after in
    let to = right_end r q from after in
    same_test _ _
    (λ t.
    let p = and_parts (nat_le from x) (nat_lt x to) t in
    let a : from ≤ x = leb-true from x p.0 in
    let b : x < to = ltb-true x to p.1 in
    and_from _ _ (and_from _ _ (le-leb first x (omega (arith, a, b))) (lt-ltb x after (omega (arith, a, b))))
    (and_from _ _ (and_from _ _ (le-leb 2048 (l / 2 ^ 20 + x) (omega (arith, a, b))) (le-leb 2048 (o / 2 ^ 20 + x) (omega (arith, a, b))))
    (and_from _ _ (le-leb (x + 2048) (r / 2 ^ 20) (omega (arith, a, b))) (le-leb (x + 2048) (q / 2 ^ 20) (omega (arith, a, b))))))
    (λ t.
    let p = and_parts (nat_le first x && nat_lt x after) _ t in
    let i = and_parts (nat_le first x) (nat_lt x after) p.0 in
    let s = and_parts (nat_le 2048 (l / 2 ^ 20 + x) && nat_le 2048 (o / 2 ^ 20 + x)) _ p.1 in
    let u = and_parts (nat_le 2048 (l / 2 ^ 20 + x)) _ s.0 in
    let w = and_parts (nat_le (x + 2048) (r / 2 ^ 20)) _ s.1 in
    let a = leb-true first x i.0 in
    let b = ltb-true x after i.1 in
    let c = leb-true 2048 (l / 2 ^ 20 + x) u.0 in
    let d = leb-true 2048 (o / 2 ^ 20 + x) u.1 in
    let e = leb-true (x + 2048) (r / 2 ^ 20) w.0 in
    let f = leb-true (x + 2048) (q / 2 ^ 20) w.1 in
    and_from _ _ (le-leb from x (omega (arith, a, b, c, d))) (lt-ltb x to (omega (arith, a, b, e, f))))

-- the columns that bounds in 32 bits let pass are those of the bounds
pub short_cut : (s : Shorts) (b : Bounds) (first after k : ℕ) → AreShort s b → k < 32 → after ≤ 2048 → IsCut (short_span s first after k) b first after k
short_cut s b first after k h few near =
    let l = short_at s.left k in
    let o = short_at s.other_left k in
    let r = short_at s.right k in
    let q = short_at s.other_right k in
    record {
      order = omega arith;
      within = omega arith;
      columns = λ x. ends_are l o r q first after x near ∙ let_here x;
    }
  where
    inside : (x : ℕ) → x < after → ((nat_le 2048 (short_at s.left k / 2 ^ 20 + x) && nat_le 2048 (short_at s.other_left k / 2 ^ 20 + x)) && (nat_le (x + 2048) (short_at s.right k / 2 ^ 20) && nat_le (x + 2048) (short_at s.other_right k / 2 ^ 20))) ≡ is_let b k x
    inside x c =
        let low : x < 2048 = omega (arith, c, near) in
        let e1 = h.left k x few low in
        let e2 = h.other_left k x few low in
        let e3 = h.right k x few low in
        let e4 = h.other_right k x few low in
        sym (λ i. (e1.0 i && e2.0 i) && (e3.1 i && e4.1 i))

    only_there : (p q u v : Bool) → (q ≡ true → u ≡ v) → ((p && q) && u) ≡ ((p && q) && v)
    only_there true true u v e = e refl
    only_there true false u v e = refl
    only_there false q u v e = refl

    let_here : (x : ℕ) → ((nat_le first x && nat_lt x after) && ((nat_le 2048 (short_at s.left k / 2 ^ 20 + x) && nat_le 2048 (short_at s.other_left k / 2 ^ 20 + x)) && (nat_le (x + 2048) (short_at s.right k / 2 ^ 20) && nat_le (x + 2048) (short_at s.other_right k / 2 ^ 20))))
        ≡ ((nat_le first x && nat_lt x after) && is_let b k x)
    let_here x = only_there (nat_le first x) (nat_lt x after) _ _ (λ t. inside x (ltb-true x after t))

-- ---- the lanes of sums

moved_by : (a s j : ℕ) → (a + s * j % 4294967296) % 4294967296 ≡ (a + s * j) % 2 ^ 32
moved_by a s j = omega arith

pub in_first_four : (s : Short) (j : ℕ) → j < 4 → slice_index (zip2 (λ x y. (x + y) % 4294967296) (s.at ∷ s.at ∷ s.at ∷ s.at ∷ []) (zip2 (λ x y. x * y % 4294967296) (s.step ∷ s.step ∷ s.step ∷ s.step ∷ []) (0 ∷ 1 ∷ 2 ∷ 3 ∷ []))) j ≡ short_at s j
in_first_four s = below_four _ (moved_by s.at s.step 0) (moved_by s.at s.step 1) (moved_by s.at s.step 2) (moved_by s.at s.step 3)

abbrev Sums : List ℕ → List ℕ → Type 0
Sums a b = (j : ℕ) → j < 4 → slice_index (zip2 (λ x y. (x + y) % 4294967296) a b) j ≡ (slice_index a j + slice_index b j) % 2 ^ 32

pub lane_sums : (a : List ℕ) → length a ≡ 4 → (b : List ℕ) → length b ≡ 4 → Sums a b
lane_sums = four_lanes (λ a. (b : List ℕ) → length b ≡ 4 → Sums a b) (λ a0 a1 a2 a3. four_lanes (λ b. Sums (a0 ∷ a1 ∷ a2 ∷ a3 ∷ []) b) (λ b0 b1 b2 b3. below_four _ refl refl refl refl))

pair : (f t : ℕ) → f < 65536 → t < 65536 → (f + t * 65536 % 4294967296) % 4294967296 ≡ f + 65536 * t
pair f t a b = omega (arith, a, b)

abbrev Pairs : List ℕ → List ℕ → Type 0
Pairs a b = ((j : ℕ) → j < 4 → slice_index a j < 65536) → ((j : ℕ) → j < 4 → slice_index b j < 65536) → (j : ℕ) → j < 4 →
    slice_index (zip2 (λ x y. (x + y) % 4294967296) a (zip2 (λ x y. x * y % 4294967296) b (65536 ∷ 65536 ∷ 65536 ∷ 65536 ∷ []))) j ≡ slice_index a j + 65536 * slice_index b j

pub lane_pairs : (a : List ℕ) → length a ≡ 4 → (b : List ℕ) → length b ≡ 4 → Pairs a b
lane_pairs = four_lanes (λ a. (b : List ℕ) → length b ≡ 4 → Pairs a b) (λ a0 a1 a2 a3. four_lanes (λ b. Pairs (a0 ∷ a1 ∷ a2 ∷ a3 ∷ []) b) (λ b0 b1 b2 b3 f t.
    below_four _ (pair a0 b0 (f 0 (omega arith)) (t 0 (omega arith))) (pair a1 b1 (f 1 (omega arith)) (t 1 (omega arith))) (pair a2 b2 (f 2 (omega arith)) (t 2 (omega arith))) (pair a3 b3 (f 3 (omega arith)) (t 3 (omega arith)))))

-- the two numbers of a word
pub unpaired : (f t w : ℕ) → w ≡ f + 65536 * t → f < 65536 → ◌≡◌ {A = ℕ × ℕ} (w % 65536, w / 65536) (f, t)
unpaired f t w e a =
    let low : w % 65536 ≡ f = omega (arith, e, a) in
    let high : w / 65536 ≡ t = omega (arith, e, a) in
    (λ i. (low i, high i))

-- a row before, or one of four
pub row_of_four : (P : ℕ → Type 0) (k : ℕ) → ((i : ℕ) → i < k → P i) → ((j : ℕ) → j < 4 → P (k + j)) → (i : ℕ) → i < k + 4 → P i
row_of_four P k before here i h = elim (cases_lt i k) [
  | inl less ↦ before i less
  | inr more ↦ let e : k + (i - k) ≡ i = omega (arith, more) in subst P e (here (i - k) (omega (arith, h, more)))
]

pub differs : (i j : ℕ) → i < j → (i == j) ≡ false
differs i j h = grind (arith, nat_tests)

-- ---- the lanes of minima and differences

abbrev masked : Bool → ℕ
masked b = cond b 4294967295 0

chosen : (b : Bool) (x y : ℕ) → cond (top 31 (masked b)) x y ≡ (if b then x else y)
chosen true x y = refl
chosen false x y = refl

least : (x y : ℕ) → cond (top 31 (masked (nat_lt x y))) x y ≡ min x y
least x y = chosen (nat_lt x y) x y ∙ elim (cases_lt x y) [
  | inl l ↦ ap (λ b. if b then x else y) (lt-ltb x y l) ∙ omega (arith, l)
  | inr g ↦ ap (λ b. if b then x else y) (le-ltb x y g) ∙ omega (arith, g)
]

most : (x y : ℕ) → cond (top 31 (masked (nat_lt x y))) y x ≡ max x y
most x y = chosen (nat_lt x y) y x ∙ elim (cases_lt x y) [
  | inl l ↦ ap (λ b. if b then y else x) (lt-ltb x y l) ∙ omega (arith, l)
  | inr g ↦ ap (λ b. if b then y else x) (le-ltb x y g) ∙ omega (arith, g)
]

abbrev Least : List ℕ → List ℕ → Type 0
Least a b = (j : ℕ) → j < 4 → slice_index (sel_l (map (top 31) (zip2 (λ x y. masked (nat_lt x y)) a b)) a b) j ≡ min (slice_index a j) (slice_index b j)

pub lanes_least : (a : List ℕ) → length a ≡ 4 → (b : List ℕ) → length b ≡ 4 → Least a b
lanes_least = four_lanes (λ a. (b : List ℕ) → length b ≡ 4 → Least a b) (λ a0 a1 a2 a3. four_lanes (λ b. Least (a0 ∷ a1 ∷ a2 ∷ a3 ∷ []) b) (λ b0 b1 b2 b3. below_four _ (least a0 b0) (least a1 b1) (least a2 b2) (least a3 b3)))

abbrev Most : List ℕ → List ℕ → Type 0
Most a b = (j : ℕ) → j < 4 → slice_index (sel_l (map (top 31) (zip2 (λ x y. masked (nat_lt x y)) a b)) b a) j ≡ max (slice_index a j) (slice_index b j)

pub lanes_most : (a : List ℕ) → length a ≡ 4 → (b : List ℕ) → length b ≡ 4 → Most a b
lanes_most = four_lanes (λ a. (b : List ℕ) → length b ≡ 4 → Most a b) (λ a0 a1 a2 a3. four_lanes (λ b. Most (a0 ∷ a1 ∷ a2 ∷ a3 ∷ []) b) (λ b0 b1 b2 b3. below_four _ (most a0 b0) (most a1 b1) (most a2 b2) (most a3 b3)))

splat_lane : (n j : ℕ) → j < 4 → slice_index (n ∷ n ∷ n ∷ n ∷ []) j ≡ n
splat_lane n = below_four (λ j. slice_index (n ∷ n ∷ n ∷ n ∷ []) j ≡ n) refl refl refl refl

pub least_of_one : (a : List ℕ) → length a ≡ 4 → (n j : ℕ) → j < 4 → slice_index (sel_l (map (top 31) (zip2 (λ x y. masked (nat_lt x y)) a (n ∷ n ∷ n ∷ n ∷ []))) a (n ∷ n ∷ n ∷ n ∷ [])) j ≡ min (slice_index a j) n
least_of_one a e n j h = lanes_least a e (n ∷ n ∷ n ∷ n ∷ []) refl j h ∙ ap (min (slice_index a j)) (splat_lane n j h)

pub most_of_one : (a : List ℕ) → length a ≡ 4 → (n j : ℕ) → j < 4 → slice_index (sel_l (map (top 31) (zip2 (λ x y. masked (nat_lt x y)) a (n ∷ n ∷ n ∷ n ∷ []))) (n ∷ n ∷ n ∷ n ∷ []) a) j ≡ max (slice_index a j) n
most_of_one a e n j h = lanes_most a e (n ∷ n ∷ n ∷ n ∷ []) refl j h ∙ ap (max (slice_index a j)) (splat_lane n j h)

abbrev Whole : List ℕ → Type 0
Whole a = (j : ℕ) → j < 4 → slice_index (zip2 (λ x y. x / 2 ^ y) a (20 ∷ 20 ∷ 20 ∷ 20 ∷ [])) j ≡ slice_index a j / 2 ^ 20

pub lanes_whole : (a : List ℕ) → length a ≡ 4 → Whole a
lanes_whole = four_lanes Whole (λ a b c d. below_four _ refl refl refl refl)

lane_fits : (a : List ℕ) → length a ≡ 4 → Each1 (Fits w32) a → (j : ℕ) → j < 4 → slice_index a j < 2 ^ 32
lane_fits = four_lanes (λ a. Each1 (Fits w32) a → (j : ℕ) → j < 4 → slice_index a j < 2 ^ 32) (λ a b c d f. below_four _ f.0.fits f.1.0.fits f.1.1.0.fits f.1.1.1.0.fits)

pub lanes_few : (a : List ℕ) → length a ≡ 4 → Each1 (Fits w32) a → (j : ℕ) → j < 4 → slice_index (zip2 (λ x y. x / 2 ^ y) a (20 ∷ 20 ∷ 20 ∷ 20 ∷ [])) j < 4096
lanes_few a e f j h = let w = lanes_whole a e j h in let l = lane_fits a e f j h in omega (arith, w, l)

behind : (x y : ℕ) → y ≤ x → x < 4294967296 → (x + (4294967296 - y)) % 4294967296 ≡ x - y
behind x y h l = omega (arith, h, l)

abbrev Under : ℕ → List ℕ → Type 0
Under n a = ((j : ℕ) → j < 4 → slice_index a j ≤ n) → (j : ℕ) → j < 4 → slice_index (zip2 (λ x y. (x + (4294967296 - y)) % 4294967296) (n ∷ n ∷ n ∷ n ∷ []) a) j ≡ n - slice_index a j

pub lanes_under : (n : ℕ) → n < 4294967296 → (a : List ℕ) → length a ≡ 4 → Under n a
lanes_under n l = four_lanes (Under n) (λ a b c d h. below_four _ (behind n a (h 0 (omega arith)) l) (behind n b (h 1 (omega arith)) l) (behind n c (h 2 (omega arith)) l) (behind n d (h 3 (omega arith)) l))

abbrev Over : ℕ → List ℕ → Type 0
Over n a = ((j : ℕ) → j < 4 → n ≤ slice_index a j) → ((j : ℕ) → j < 4 → slice_index a j < 65536) → (j : ℕ) → j < 4 → slice_index (zip2 (λ x y. (x + (4294967296 - y)) % 4294967296) a (n ∷ n ∷ n ∷ n ∷ [])) j ≡ slice_index a j - n

pub lanes_over : (n : ℕ) (a : List ℕ) → length a ≡ 4 → Over n a
lanes_over n = four_lanes (Over n) (λ a b c d h l.
    below_four _ (behind a n (h 0 (omega arith)) (omega (arith, l 0 (omega arith)))) (behind b n (h 1 (omega arith)) (omega (arith, l 1 (omega arith)))) (behind c n (h 2 (omega arith)) (omega (arith, l 2 (omega arith)))) (behind d n (h 3 (omega arith)) (omega (arith, l 3 (omega arith)))))

-- a number that stays near is so in the first row
pub near_first : (at step : ℤ) → ((k : ℕ) → k < 32 → (pos 0 ≤ℤ (at +ℤ step *ℤ pos k +ℤ pos (2 ^ 31))) × ((at +ℤ step *ℤ pos k +ℤ pos (2 ^ 31)) <ℤ pos (2 ^ 32))) → (pos 0 ≤ℤ (at +ℤ pos (2 ^ 31))) × ((at +ℤ pos (2 ^ 31)) <ℤ pos (2 ^ 32))
near_first at step h =
    let e : at +ℤ step *ℤ pos 0 ≡ at = no_step at step in
    let n = h 0 (omega arith) in
    (omega (arith, ints, n.0, e), omega (arith, ints, n.1, e))
