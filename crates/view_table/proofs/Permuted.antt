-- The order of the views is a permutation: each view stands in it, and once.
use Rattle.std.proofs.Common.{◌≡◌, ◌≢◌, ◌<◌, ◌≤◌, ◌+◌, ℕ, Bool, true, false, not, ◌||◌, ◌==◌, if◌then◌else◌, List, [], ◌∷◌, ◌++◌, length, filter, slice_index, zero, suc, refl, sym, ap, ◌∙◌, arith}
use mathlib.Core.Logic.{⊎_elim, ◌⊎◌, inl, inr}
use Rattle.std.specs.List.{range_with_len}
use Rattle.std.proofs.lemmas.Bool.{cases_eq, or_cases, eq-eqb, ne_eqb, both_ways, eqb-true, false_from_ne_true}
use Rattle.std.proofs.lemmas.List.{length-append}
use Rattle.gfx_model.specs.Number.{is_among, is_without_repeat, place_of}
use Rattle.view_table.specs.Order.{AreBelow, in_order}
use Rattle.view_table.proofs.Lists.{among-append, among_at, at_place, parts, without-append}

-- whether a number is not listed
abbrev pub is_other : List ℕ → ℕ → Bool
is_other listed v = not (is_among v listed)

-- ---- tests that agree on a range filter it alike

same_by_head : (b c : Bool) (a : ℕ) (xs ys : List ℕ) → b ≡ c → xs ≡ ys → (if b then a ∷ xs else xs) ≡ (if c then a ∷ ys else ys)
same_by_head b c a xs ys e f = rw (e, f) refl

pub filter_range_same : (p q : ℕ → Bool) (a n : ℕ) → ((v : ℕ) → a ≤ v → v < a + n → p v ≡ q v) → filter p (range_with_len a n) ≡ filter q (range_with_len a n)
filter_range_same p q a zero h = refl
filter_range_same p q a (suc n) h =
    same_by_head (p a) (q a) a (filter p (range_with_len (a + 1) n)) (filter q (range_with_len (a + 1) n)) (h a (omega arith) (omega arith))
    (filter_range_same p q (a + 1) n (λ v l m. h v (omega (arith, l)) (omega (arith, m))))

-- ---- what a filter of a range has

among_by_head : (b : Bool) (v a : ℕ) (xs : List ℕ) → is_among v (if b then a ∷ xs else xs) ≡ true → ((v == a) ≡ true × (b ≡ true)) ⊎ (is_among v xs ≡ true)
among_by_head true v a xs h = ⊎_elim (λ e. inl (e, refl)) inr (or_cases (v == a) (is_among v xs) h)
among_by_head false v a xs h = inr h

-- an element of it passes the test and lies in the range
pub record IsKept (p : ℕ → Bool) (a n v : ℕ) : Type 0 where
  pub passes : p v ≡ true
  pub from : a ≤ v
  pub below : v < a + n

pub among_filter : (p : ℕ → Bool) (a n v : ℕ) → is_among v (filter p (range_with_len a n)) ≡ true → IsKept p a n v
among_filter p a zero v h = absurd (both_ways false refl h)
among_filter p a (suc n) v h =
    ⊎_elim
    (λ k. let e : v ≡ a = eqb-true v a k.0 in record { passes = ap p e ∙ k.1; from = omega (arith, e); below = omega (arith, e) })
    (λ k. let r = among_filter p (a + 1) n v k in record { passes = r.passes; from = omega (arith, r.from); below = omega (arith, r.below) })
    (among_by_head (p a) v a (filter p (range_with_len (a + 1) n)) h)

-- and each number of the range that passes is an element
or_true : (a b : Bool) → b ≡ true → (a || b) ≡ true
or_true true b e = refl
or_true false b e = e

kept_by_head : (b : Bool) (v a : ℕ) (xs : List ℕ) → is_among v xs ≡ true → is_among v (if b then a ∷ xs else xs) ≡ true
kept_by_head true v a xs h = or_true (v == a) (is_among v xs) h
kept_by_head false v a xs h = h

pub filter_has : (p : ℕ → Bool) (a n v : ℕ) → p v ≡ true → a ≤ v → v < a + n → is_among v (filter p (range_with_len a n)) ≡ true
filter_has p a zero v h l m = absurd (omega (arith, l, m))
filter_has p a (suc n) v h l m =
    ⊎_elim
    (λ e. rw (sym (ap p e) ∙ h, eq-eqb v a e) refl)
    (λ d. kept_by_head (p a) v a (filter p (range_with_len (a + 1) n)) (filter_has p (a + 1) n v h (omega (arith, l, d)) (omega (arith, m))))
    (cases_eq v a)

-- it has no repeat
without_by_head : (b : Bool) (a : ℕ) (xs : List ℕ) → is_among a xs ≡ false → is_without_repeat xs ≡ true → is_without_repeat (if b then a ∷ xs else xs) ≡ true
without_by_head true a xs h d = rw h d
without_by_head false a xs h d = d

pub filter_without : (p : ℕ → Bool) (a n : ℕ) → is_without_repeat (filter p (range_with_len a n)) ≡ true
filter_without p a zero = refl
filter_without p a (suc n) =
    without_by_head (p a) a (filter p (range_with_len (a + 1) n))
    (false_from_ne_true (is_among a (filter p (range_with_len (a + 1) n))) (λ h. omega (arith, (among_filter p (a + 1) n a h).from)))
    (filter_without p (a + 1) n)

-- ---- how many are listed and how many are not

length_head : (b : Bool) (a : ℕ) (xs : List ℕ) → length (if b then a ∷ xs else xs) ≡ (if b then 1 else 0) + length xs
length_head true a xs = omega arith
length_head false a xs = omega arith

other_when_first : (x : ℕ) (xs : List ℕ) (v : ℕ) → v ≡ x → is_other (x ∷ xs) v ≡ false
other_when_first x xs v e = rw (eq-eqb v x e) refl

other_when_not_first : (x : ℕ) (xs : List ℕ) (v : ℕ) → v ≢ x → is_other (x ∷ xs) v ≡ is_other xs v
other_when_not_first x xs v n = rw (ne_eqb v x n) refl

one_fewer : (x : ℕ) (xs : List ℕ) → is_among x xs ≡ false → (a n : ℕ) → a ≤ x → x < a + n
    → length (filter (is_other (x ∷ xs)) (range_with_len a n)) + 1 ≡ length (filter (is_other xs) (range_with_len a n))
one_fewer x xs gone a zero l m = absurd (omega (arith, l, m))
one_fewer x xs gone a (suc n) l m =
    let new : List ℕ = filter (is_other (x ∷ xs)) (range_with_len (a + 1) n) in
    let old : List ℕ = filter (is_other xs) (range_with_len (a + 1) n) in
    ⊎_elim
    (λ e. let rest : new ≡ old = filter_range_same (is_other (x ∷ xs)) (is_other xs) (a + 1) n (λ v k j. other_when_not_first x xs v (λ q. omega (arith, q, e, k))) in
    let there : is_other xs a ≡ true = ap (is_other xs) e ∙ ap not gone in
    rw (other_when_first x xs a e, there, rest) (omega arith))
    (λ d. let rest : length new + 1 ≡ length old = one_fewer x xs gone (a + 1) n (omega (arith, l, d)) (omega (arith, m)) in
    rw (other_when_not_first x xs a d, length_head (is_other xs a) a new, length_head (is_other xs a) a old) (omega (arith, rest)))
    (cases_eq a x)

none_listed : (a n : ℕ) → length (filter (is_other []) (range_with_len a n)) ≡ n
none_listed a zero = refl
none_listed a (suc n) = omega (arith, none_listed (a + 1) n)

below_rest : (count x : ℕ) (xs : List ℕ) → AreBelow count (x ∷ xs) → AreBelow count xs
below_rest count x xs h i within = h (suc i) (omega (arith, within))

pub others_length : (count : ℕ) (listed : List ℕ) → is_without_repeat listed ≡ true → AreBelow count listed
    → length listed + length (filter (is_other listed) (range_with_len 0 count)) ≡ count
others_length count [] d h = omega (arith, none_listed 0 count)
others_length count (x ∷ xs) d h =
    let p = parts x xs d in
    let first : x < count = h 0 (omega arith) in
    omega (arith, one_fewer x xs p.0 0 count (omega arith) (omega (arith, first)), others_length count xs p.1 (below_rest count x xs h))

-- ---- the order

pub order_length : (count : ℕ) (listed : List ℕ) → is_without_repeat listed ≡ true → AreBelow count listed → length (in_order count listed) ≡ count
order_length count listed d h = length-append listed (filter (is_other listed) (range_with_len 0 count)) ∙ others_length count listed d h

has_by_listed : (b : Bool) (v : ℕ) (xs ys : List ℕ) → is_among v xs ≡ b → (b ≡ false → is_among v ys ≡ true) → is_among v (xs ++ ys) ≡ true
has_by_listed true v xs ys e f = among-append v xs ys ∙ rw e refl
has_by_listed false v xs ys e f = among-append v xs ys ∙ rw (e, f refl) refl

pub order_has : (count : ℕ) (listed : List ℕ) (v : ℕ) → v < count → is_among v (in_order count listed) ≡ true
order_has count listed v h =
    has_by_listed (is_among v listed) v listed (filter (is_other listed) (range_with_len 0 count)) refl
    (λ gone. filter_has (is_other listed) 0 count v (ap not gone) (omega arith) (omega (arith, h)))

pub order_without : (count : ℕ) (listed : List ℕ) → is_without_repeat listed ≡ true → is_without_repeat (in_order count listed) ≡ true
order_without count listed d =
    without-append listed (filter (is_other listed) (range_with_len 0 count)) d (filter_without (is_other listed) 0 count)
    (λ v h. false_from_ne_true (is_among v (filter (is_other listed) (range_with_len 0 count)))
    (λ k. both_ways (is_other listed v) (ap not h) (among_filter (is_other listed) 0 count v k).passes))

below_of_listed : (count : ℕ) (listed : List ℕ) (v : ℕ) → AreBelow count listed → is_among v listed ≡ true → v < count
below_of_listed count listed v h k = let p = at_place v listed k in omega (arith, h (place_of v listed) p.0, p.1)

pub order_below : (count : ℕ) (listed : List ℕ) → AreBelow count listed → AreBelow count (in_order count listed)
order_below count listed h i within =
    let v : ℕ = slice_index (in_order count listed) i in
    ⊎_elim (λ k. below_of_listed count listed v h k)
    (λ k. omega (arith, (among_filter (is_other listed) 0 count v k).below))
    (or_cases (is_among v listed) (is_among v (filter (is_other listed) (range_with_len 0 count)))
    (sym (among-append v listed (filter (is_other listed) (range_with_len 0 count))) ∙ among_at (in_order count listed) i within))
