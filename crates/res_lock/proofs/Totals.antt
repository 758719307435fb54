-- Sums over views, and counts of callers.
use Rattle.std.proofs.Common.{◌≡◌, ◌≢◌, ℕ, zero, suc, ◌+◌, ◌<◌, ◌≤◌, Bool, true, false, nat_lt, if◌then◌else◌, List, [], ◌∷◌, ◌++◌, length, set, sym, refl, ap, ◌∙◌, arith, eq-eqb, ne_eqb, ⊎_elim}
use Rattle.std.proofs.lemmas.Bool.{cases_lt}
use mathlib.Core.Option.{some, some-injective, some-ne-none}
use mathlib.Core.Logic.{dite}
use native.Mathlib.Decide.{ℕ_discrete}
use lib.ListN.{get_elem?}
use Rattle.atomic_table.proofs.Lists.{set_else}
use Rattle.schedule_model.specs.Held.{count_of}
use Rattle.res_lock.specs.Views.{PassView, no_view}
use Rattle.res_lock.specs.Rule.{total, once_below}

-- ---- sums over views

pub total_set : (f : PassView → ℕ) (l : List PassView) (i : ℕ) (v w : PassView) → get_elem? l i ≡ some v → total f (set l i w) + f v ≡ total f l + f w
total_set f [] i v w e = absurd (some-ne-none v (sym e))
total_set f (x ∷ xs) zero v w e = let is : f x ≡ f v = ap f (some-injective x v e) in omega arith
total_set f (x ∷ xs) (suc i) v w e = let r = total_set f xs i v w e in omega arith

pub total_snoc : (f : PassView → ℕ) (l : List PassView) (w : PassView) → total f (l ++ w ∷ []) ≡ total f l + f w
total_snoc f [] w = omega arith
total_snoc f (x ∷ xs) w = let r = total_snoc f xs w in omega arith

pub total_at : (f : PassView → ℕ) (l : List PassView) (i : ℕ) (v : PassView) → get_elem? l i ≡ some v → f v ≤ total f l
total_at f [] i v e = absurd (some-ne-none v (sym e))
total_at f (x ∷ xs) zero v e = let is : f x ≡ f v = ap f (some-injective x v e) in omega arith
total_at f (x ∷ xs) (suc i) v e = let r = total_at f xs i v e in omega arith

-- two views at different places
pub total_two : (f : PassView → ℕ) (l : List PassView) (i j : ℕ) (v w : PassView) → j ≢ i → get_elem? l i ≡ some v → get_elem? l j ≡ some w → f no_view ≡ 0 → f v + f w ≤ total f l
total_two f l i j v w ne at_i at_j none =
    let s = total_set f l i v no_view at_i in
    let t = total_at f (set l i no_view) j w (set_else l i j no_view ne ∙ at_j) in
    omega arith

-- ---- callers below a number

pub below : (next c : ℕ) → c < next → once_below next c ≡ 1
below next c lt = let e : nat_lt c next ≡ true = grind (arith, lt) in ap (λ (b : Bool). if b then 1 else 0) e

pub not_below : (next c : ℕ) → next ≤ c → once_below next c ≡ 0
not_below next c le = let e : nat_lt c next ≡ false = grind (arith, le) in ap (λ (b : Bool). if b then 1 else 0) e

pub once_most : (next c : ℕ) → once_below next c ≤ 1
once_most next c = by (nat_lt c next)
  where
    by : (b : Bool) → (if b then 1 else 0) ≤ 1
    by true = omega arith
    by false = omega arith

pub count_here : (n : ℕ) → count_of n (n ∷ []) ≡ 1
count_here n = rw (eq-eqb n n refl) (omega arith)

pub count_other : (n x : ℕ) → x ≢ n → count_of n (x ∷ []) ≡ 0
count_other n x ne = rw (ne_eqb x n ne) (omega arith)

lt_of_le-ne : (a b : ℕ) → a ≤ b → a ≢ b → a < b
lt_of_le-ne a b le ne = ⊎_elim (λ (lt : a < b). lt) (λ (ge : b ≤ a). absurd (ne (omega arith))) (cases_lt a b)

-- one caller more
pub next_below : (next c : ℕ) → once_below next c + count_of c (next ∷ []) ≡ once_below (next + 1) c
next_below next c = dite (ℕ_discrete next c)
    (λ (same : next ≡ c). let a = not_below next c (omega arith) in let b = below (next + 1) c (omega arith) in let h : count_of c (next ∷ []) ≡ 1 = ap (λ (x : ℕ). count_of c (x ∷ [])) same ∙ count_here c in omega arith)
    (λ (ne : next ≢ c). other ne (count_other c next ne) (nat_lt c next) refl)
  where
    other : next ≢ c → count_of c (next ∷ []) ≡ 0 → (b : Bool) → nat_lt c next ≡ b → once_below next c + count_of c (next ∷ []) ≡ once_below (next + 1) c
    other ne h true e = let a = below next c (grind (arith, e)) in let b = below (next + 1) c (grind (arith, e)) in omega arith
    other ne h false e = let le : next ≤ c = grind (arith, e) in let lt : next < c = lt_of_le-ne next c le ne in let a = not_below next c le in let b = not_below (next + 1) c (omega arith) in omega arith

-- a list of no numbers
pub none_of_length : (c : ℕ) (xs : List ℕ) → length xs ≡ 0 → count_of c xs ≡ 0
none_of_length c [] e = refl
none_of_length c (x ∷ xs) e = absurd (omega arith)
