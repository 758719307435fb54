-- Numbers of a list of which no two are equal.
use Rattle.std.proofs.Common.{◌≡◌, ◌≢◌, ℕ, ◌≤◌, ◌==◌, Bool, true, false, true≢false, ◌&&◌, if◌then◌else◌, List, [], ◌∷◌, refl, ap, sym, ◌∙◌, arith}
use mathlib.Core.Logic.{dite}
use native.Mathlib.Decide.{ℕ_discrete}
use Rattle.std.proofs.lemmas.Bool.{ne_eqb}
use Rattle.schedule_model.specs.Held.{count_of}

abbrev pub are_apart : List ℕ → Bool
are_apart [] = true
are_apart (m ∷ ms) = (count_of m ms == 0) && are_apart ms

both_true : (a b : Bool) → (a && b) ≡ true → (a ≡ true) × (b ≡ true)
both_true true b h = (refl, h)
both_true false b h = absurd (true≢false (sym h))

abbrev one_if : Bool → ℕ
one_if b = if b then 1 else 0

one_most : (b : Bool) → one_if b ≤ 1
one_most true = omega arith
one_most false = omega arith

none_of : (n : ℕ) → (n == 0) ≡ true → n ≡ 0
none_of n h = grind (arith, h)

pub count_most : (ms : List ℕ) → are_apart ms ≡ true → (n : ℕ) → count_of n ms ≤ 1
count_most [] h n = omega arith
count_most (m ∷ ms) h n =
    let t = both_true (count_of m ms == 0) (are_apart ms) h in
    dite (ℕ_discrete m n)
    (λ (e : m ≡ n). let none : count_of n ms ≡ 0 = ap (λ (k : ℕ). count_of k ms) (sym e) ∙ none_of (count_of m ms) t.0 in let one = one_most (m == n) in omega (arith, none, one))
    (λ (ne : m ≢ n). let zero : one_if (m == n) ≡ 0 = ap one_if (ne_eqb m n ne) in let rest = count_most ms t.1 n in omega (arith, zero, rest))
