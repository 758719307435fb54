-- Sums over views, and how often a number stands in a list.
use Rattle.std.proofs.Common.{◌≡◌, ◌≢◌, ℕ, zero, suc, ◌+◌, ◌*◌, ◌<◌, ◌≤◌, Bool, true, false, ◌&&◌, nat_le, nat_lt, if◌then◌else◌, List, [], ◌∷◌, ◌++◌, length, set, sym, refl, ap, arith, eq-eqb, ne_eqb, lt_of_not-le, ◌∙◌, ⊎_elim}
use Rattle.std.proofs.lemmas.Bool.{cases_lt}
use Rattle.std.specs.List.{AllByRecursion}
use mathlib.Core.Option.{some, some-injective, some-ne-none}
use lib.ListN.{get_elem?}
use Rattle.schedule_model.specs.Held.{count_of}
use Rattle.hold_table.specs.Views.{SeatView, once_between}
use Rattle.hold_table.specs.Rule.{total}

-- ---- sums over views

pub total_set : (f : SeatView → ℕ) (l : List SeatView) (i : ℕ) (v w : SeatView) → get_elem? l i ≡ some v → total f (set l i w) + f v ≡ total f l + f w
total_set f [] i v w e = absurd (some-ne-none v (sym e))
total_set f (x ∷ xs) zero v w e = let is : f x ≡ f v = ap f (some-injective x v e) in omega arith
total_set f (x ∷ xs) (suc i) v w e = let r = total_set f xs i v w e in omega arith

pub total_snoc : (f : SeatView → ℕ) (l : List SeatView) (w : SeatView) → total f (l ++ w ∷ []) ≡ total f l + f w
total_snoc f [] w = omega arith
total_snoc f (x ∷ xs) w = let r = total_snoc f xs w in omega arith

pub total_at : (f : SeatView → ℕ) (l : List SeatView) (i : ℕ) (v : SeatView) → get_elem? l i ≡ some v → f v ≤ total f l
total_at f [] i v e = absurd (some-ne-none v (sym e))
total_at f (x ∷ xs) zero v e = let is : f x ≡ f v = ap f (some-injective x v e) in omega arith
total_at f (x ∷ xs) (suc i) v e = let r = total_at f xs i v e in omega arith

pub total_most : (f g : SeatView → ℕ) (k : ℕ) (l : List SeatView) → ((i : ℕ) (v : SeatView) → get_elem? l i ≡ some v → f v ≤ k * g v) → total f l ≤ k * total g l
total_most f g k [] h = omega arith
total_most f g k (x ∷ xs) h = let r = total_most f g k xs (λ i v e. h (suc i) v e) in let here = h 0 x refl in omega arith

-- ---- how often a number stands in a list

pub count_here : (n : ℕ) (xs : List ℕ) → count_of n (n ∷ xs) ≡ suc (count_of n xs)
count_here n xs = rw (eq-eqb n n refl) (omega arith)

pub count_other : (n x : ℕ) (xs : List ℕ) → x ≢ n → count_of n (x ∷ xs) ≡ count_of n xs
count_other n x xs ne = rw (ne_eqb x n ne) (omega arith)

count_tail : (n x : ℕ) (xs : List ℕ) → count_of n xs ≤ count_of n (x ∷ xs)
count_tail n x xs = omega arith

-- a list in which no number from w on stands is below w
pub below_from_counts : (w : ℕ) (xs : List ℕ) → ((n : ℕ) → w ≤ n → count_of n xs ≡ 0) → AllByRecursion (λ n. n < w) xs
below_from_counts w [] h = tt
below_from_counts w (x ∷ xs) h = (
  lt_of_not-le (λ (le : w ≤ x). let at = count_here x xs in let no = h x le in omega arith),
  below_from_counts w xs (λ n le. let no = h n le in let t = count_tail n x xs in omega arith),
)

-- ---- once between two numbers

and_false : (b : Bool) → (b && false) ≡ false
and_false true = refl
and_false false = refl

pub between_below : (low high n : ℕ) → n < low → once_between low high n ≡ 0
between_below low high n lt = let e : nat_le low n ≡ false = grind (arith, lt) in ap (λ (b : Bool). if b && nat_lt n high then 1 else 0) e

pub between_above : (low high n : ℕ) → high ≤ n → once_between low high n ≡ 0
between_above low high n le =
    let e : nat_lt n high ≡ false = grind (arith, le) in
    ap (λ (b : Bool). if nat_le low n && b then 1 else 0) e ∙ ap (λ (b : Bool). if b then 1 else 0) (and_false (nat_le low n))

pub between_in : (low high n : ℕ) → low ≤ n → n < high → once_between low high n ≡ 1
between_in low high n le lt =
    let a : nat_le low n ≡ true = grind (arith, le) in
    let b : nat_lt n high ≡ true = grind (arith, lt) in
    ap (λ (x : Bool). if x && nat_lt n high then 1 else 0) a ∙ ap (λ (x : Bool). if x then 1 else 0) b

-- a count that is 0 below, 1 between and 0 above
pub once_by : (low high n m : ℕ) → (n < low → m ≡ 0) → (low ≤ n → n < high → m ≡ 1) → (high ≤ n → m ≡ 0) → m ≡ once_between low high n
once_by low high n m below between above = ⊎_elim
    (λ (lt : n < low). below lt ∙ sym (between_below low high n lt))
    (λ (le : low ≤ n). ⊎_elim
    (λ (lt : n < high). between le lt ∙ sym (between_in low high n le lt))
    (λ (over : high ≤ n). above over ∙ sym (between_above low high n over))
    (cases_lt n high))
    (cases_lt n low)

pub once_most : (low high n : ℕ) → once_between low high n ≤ 1
once_most low high n = ⊎_elim
    (λ (lt : n < low). let e = between_below low high n lt in omega arith)
    (λ (le : low ≤ n). ⊎_elim
    (λ (lt : n < high). let e = between_in low high n le lt in omega arith)
    (λ (over : high ≤ n). let e = between_above low high n over in omega arith)
    (cases_lt n high))
    (cases_lt n low)

-- ---- places of a list

pub in_range : {A : Type 0} (l : List A) (i : ℕ) (a : A) → get_elem? l i ≡ some a → i < length l
in_range [] i a e = absurd (some-ne-none a (sym e))
in_range (x ∷ xs) zero a e = omega arith
in_range (x ∷ xs) (suc i) a e = let r = in_range xs i a e in omega arith
