-- Lists without a repeat, and the places in them.
use Rattle.std.proofs.Common.{◌≡◌, ◌<◌, ◌+◌, ℕ, Bool, true, false, ◌||◌, ◌==◌, if◌then◌else◌, List, [], ◌∷◌, ◌++◌, length, slice_index, slice_set, zero, suc, refl, sym, ap, ◌∙◌, arith}
use mathlib.Core.Logic.{⊎_elim}
use Rattle.std.proofs.lemmas.Bool.{cases_eq, eq-eqb, eqb-true, both_ways, false_from_ne_true}
use Rattle.std.proofs.lemmas.List.{get_or-set_same, get_or-set_other}
use Rattle.gfx_model.specs.Number.{is_among, is_without_repeat, place_of}
use Rattle.view_table.specs.Order.{AreBelow}

-- ---- standing in a list

or_true : (a b : Bool) → b ≡ true → (a || b) ≡ true
or_true true b e = refl
or_true false b e = e

or_of : (a b c d : Bool) → b ≡ (c || d) → (a || b) ≡ ((a || c) || d)
or_of true b c d e = refl
or_of false b c d e = e

pub among-append : (n : ℕ) (xs ys : List ℕ) → is_among n (xs ++ ys) ≡ (is_among n xs || is_among n ys)
among-append n [] ys = refl
among-append n (x ∷ xs) ys = or_of (n == x) (is_among n (xs ++ ys)) (is_among n xs) (is_among n ys) (among-append n xs ys)

-- the element at a place stands in the list
pub among_at : (xs : List ℕ) (i : ℕ) → i < length xs → is_among (slice_index xs i) xs ≡ true
among_at [] i h = absurd (omega (arith, h))
among_at (x ∷ xs) zero h = rw (eq-eqb x x refl) refl
among_at (x ∷ xs) (suc i) h = or_true (slice_index xs i == x) (is_among (slice_index xs i) xs) (among_at xs i (omega (arith, h)))

-- the place of an element that stands in the list
place_by_head : (n x : ℕ) (xs : List ℕ) (b : Bool) → (n == x) ≡ b → (b || is_among n xs) ≡ true
    → (is_among n xs ≡ true → (place_of n xs < length xs) × (slice_index xs (place_of n xs) ≡ n))
    → ((if b then 0 else place_of n xs + 1) < length (x ∷ xs)) × (slice_index (x ∷ xs) (if b then 0 else place_of n xs + 1) ≡ n)
place_by_head n x xs true e h rest = (omega arith, sym (eqb-true n x e))
place_by_head n x xs false e h rest =
    let later : place_of n xs + 1 ≡ suc (place_of n xs) = omega arith in
    (omega (arith, (rest h).0), rw later (rest h).1)

pub at_place : (n : ℕ) (xs : List ℕ) → is_among n xs ≡ true → (place_of n xs < length xs) × (slice_index xs (place_of n xs) ≡ n)
at_place n [] h = absurd (both_ways false refl h)
at_place n (x ∷ xs) h = place_by_head n x xs (n == x) refl h (at_place n xs)

-- ---- no repeat

pub parts : (x : ℕ) (xs : List ℕ) → is_without_repeat (x ∷ xs) ≡ true → (is_among x xs ≡ false) × (is_without_repeat xs ≡ true)
parts x xs h = by_head (is_among x xs) (is_without_repeat xs) h
  where
    by_head : (a b : Bool) → (if a then false else b) ≡ true → (a ≡ false) × (b ≡ true)
    by_head true b e = absurd (both_ways false refl e)
    by_head false b e = (refl, e)

-- the place of the element at a place is that place
pub place_at : (xs : List ℕ) → is_without_repeat xs ≡ true → (i : ℕ) → i < length xs → place_of (slice_index xs i) xs ≡ i
place_at [] d i h = absurd (omega (arith, h))
place_at (x ∷ xs) d zero h = rw (eq-eqb x x refl) refl
place_at (x ∷ xs) d (suc i) h =
    let p = parts x xs d in
    let within : i < length xs = omega (arith, h) in
    let differs : (slice_index xs i == x) ≡ false
    = false_from_ne_true (slice_index xs i == x) (λ e. both_ways (is_among x xs) p.0 (ap (λ n. is_among n xs) (sym (eqb-true (slice_index xs i) x e)) ∙ among_at xs i within)) in
    rw (differs, place_at xs p.1 i within) (omega arith)

-- two lists without a repeat that have no element in common
pub without-append : (xs ys : List ℕ) → is_without_repeat xs ≡ true → is_without_repeat ys ≡ true
    → ((n : ℕ) → is_among n xs ≡ true → is_among n ys ≡ false) → is_without_repeat (xs ++ ys) ≡ true
without-append [] ys d e apart = e
without-append (x ∷ xs) ys d e apart =
    let p = parts x xs d in
    let here : is_among x (x ∷ xs) ≡ true = rw (eq-eqb x x refl) refl in
    let gone : is_among x (xs ++ ys) ≡ false = among-append x xs ys ∙ rw (p.0, apart x here) refl in
    rw gone (without-append xs ys p.1 e (λ n h. apart n (or_true (n == x) (is_among n xs) h)))

-- one more element
pub without_more : (xs : List ℕ) (x : ℕ) → is_without_repeat xs ≡ true → is_among x xs ≡ false → is_without_repeat (xs ++ x ∷ []) ≡ true
without_more xs x d gone =
    without-append xs (x ∷ []) d refl (λ n h. by_head n (n == x) refl h)
  where
    by_head : (n : ℕ) (b : Bool) → (n == x) ≡ b → is_among n xs ≡ true → (b || false) ≡ false
    by_head n true e h = absurd (both_ways (is_among x xs) gone (ap (λ m. is_among m xs) (sym (eqb-true n x e)) ∙ h))
    by_head n false e h = refl

-- an element that stands before itself
no_repeat_by_head : (x z : ℕ) (zs ys : List ℕ) (b : Bool) → (x == z) ≡ b → is_among z (zs ++ x ∷ ys) ≡ false → (b || is_among x zs) ≡ true
    → (is_among x zs ≡ true → ⊥) → ⊥
no_repeat_by_head x z zs ys true e gone k past = both_ways (is_among z (zs ++ x ∷ ys)) gone
    (among-append z zs (x ∷ ys) ∙ or_true (is_among z zs) (is_among z (x ∷ ys)) (rw (eq-eqb z x (sym (eqb-true x z e))) refl))
no_repeat_by_head x z zs ys false e gone k past = past k

no_repeat : (xs ys : List ℕ) (x : ℕ) → is_without_repeat (xs ++ x ∷ ys) ≡ true → is_among x xs ≡ true → ⊥
no_repeat [] ys x d h = both_ways false refl h
no_repeat (z ∷ zs) ys x d h =
    let p = parts z (zs ++ x ∷ ys) d in
    no_repeat_by_head x z zs ys (x == z) refl p.0 h (no_repeat zs ys x p.1)

pub repeat_found : (xs ys : List ℕ) (x : ℕ) → is_among x xs ≡ true → is_without_repeat (xs ++ x ∷ ys) ≡ false
repeat_found xs ys x h = false_from_ne_true (is_without_repeat (xs ++ x ∷ ys)) (λ d. no_repeat xs ys x d h)

-- ---- positions written down one after the other

pub positions_more : (positions xs : List ℕ) (at : ℕ) → is_without_repeat xs ≡ true → length positions ≡ length xs → AreBelow (length xs) xs
    → at < length xs → ((p : ℕ) → p < at → slice_index positions (slice_index xs p) ≡ p)
    → (p : ℕ) → p < at + 1 → slice_index (slice_set positions (slice_index xs at) at) (slice_index xs p) ≡ p
positions_more positions xs at d long below within done p h =
    ⊎_elim
    (λ e. ap (λ q. slice_index (slice_set positions (slice_index xs at) at) (slice_index xs q)) e
    ∙ get_or-set_same positions (slice_index xs at) at 0 (omega (arith, long, below at within)) ∙ sym e)
    (λ n. get_or-set_other positions (slice_index xs at) (slice_index xs p) at 0
    (λ e. n (sym (place_at xs d p (omega (arith, h, within))) ∙ ap (λ v. place_of v xs) e ∙ place_at xs d at within))
    ∙ done p (omega (arith, h, n)))
    (cases_eq p at)
