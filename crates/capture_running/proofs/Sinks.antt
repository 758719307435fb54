-- A sink in memory that has room does not fail.
use Rattle.std.proofs.Common.{◌≡◌, ◌∙◌, ℕ, zero, suc, ◌+◌, ◌<◌, ◌≤◌, ◌==◌, List, [], length, take, Option, Some, None, refl, ap, inl, inr, ◌⊎◌, arith}
use Rattle.std.specs.Prelude.{if◌then◌else◌}
use Rattle.std.proofs.lemmas.Bool.{ne_eqb}
use Rattle.std.proofs.lemmas.List.{length-take}
use Rattle.io_edge.specs.Edge.{Rose}
use Rattle.io_edge.specs.Memory.{sure_of}

by-count : (count capacity n : ℕ) → (if count == 0 then Some capacity else None) ≡ Some n → (count ≡ 0) × (capacity ≡ n)
by-count zero capacity n e = (refl, cc)
by-count (suc k) capacity n e = let none : ◌≡◌ {A = Option ℕ} None (Some n) = rw (ne_eqb (suc k) 0 (λ z. omega arith)) at e in absurd cc

-- a sure length is told where no call is to fail, and is the capacity
sure-is : (fails : List ℕ) (capacity n : ℕ) → sure_of fails capacity ≡ Some n → (length fails ≡ 0) × (capacity ≡ n)
sure-is fails capacity n e = by-count (length fails) capacity n e

pub length-take-all : (n : ℕ) (xs : List ℕ) {m : ℕ} → length xs ≤ m → length (take n xs) ≤ m
length-take-all n xs fits = omega (arith, length-take n xs, fits)

pub never-rose : (a b : ℕ) → a ≡ 0 → b ≡ 0 → Rose a b → ⊥
never-rose a b x y (inl lt) = absurd (omega (arith, lt, y))
never-rose a b x y (inr last) = absurd (omega (arith, last, y))

-- a sink with room for one byte more than it holds did not fail
pub sound-sink : (fails new_fails held : List ℕ) (capacity new_capacity size faults new_faults : ℕ) → fails ≡ [] → capacity ≡ size + 1 → faults ≡ 0
    → sure_of new_fails new_capacity ≡ sure_of fails capacity → (length new_fails ≡ 0 → length held < new_capacity → new_faults ≡ 0)
    → length held ≤ size → Rose faults new_faults → ⊥
sound-sink fails new_fails held capacity new_capacity size faults new_faults none room begun same sound fits rose =
    let told : sure_of new_fails new_capacity ≡ Some (size + 1) = same ∙ ap (λ (xs : List ℕ). sure_of xs capacity) none ∙ ap Some room in
    let both = sure-is new_fails new_capacity (size + 1) told in
    never-rose faults new_faults begun (sound both.0 (omega (arith, both.1, fits))) rose
