use Rattle.std.proofs.Common.{◌≡◌, ℕ, zero, suc, ◌+◌, ◌<◌, ◌≤◌, ◌==◌, Bool, true, false, List, [], ◌∷◌, length, refl, ap, ◌∙◌, arith, slice_index_or, slice_set, if◌then◌else◌}
use Rattle.std.proofs.lemmas.Bool.{eq-eqb, ne_eqb}
use Rattle.gfx_model.specs.Resources.{Thing, change_of_serial}
use Rattle.resource_laws.specs.Lawful.{Rises}

rises_at : (n : ℕ) (ts : List Thing) (i : ℕ) (d : Thing) → Rises n ts → i < length ts → n ≤ (slice_index_or ts i d).handle.serial
rises_at n [] i d r lt = omega (arith, lt)
rises_at n (t ∷ ts) zero d r lt = r.0
rises_at n (t ∷ ts) (suc i) d r lt = let h = rises_at (t.handle.serial + 1) ts i d r.1 (omega (arith, lt)) in omega (arith, h, r.0)

if_false : {A : Type 0} (b : Bool) (x y : A) → b ≡ false → (if b then x else y) ≡ y
if_false b x y e = ap (λ c. if c then x else y) e

if_true : {A : Type 0} (b : Bool) (x y : A) → b ≡ true → (if b then x else y) ≡ x
if_true b x y e = ap (λ c. if c then x else y) e

nothing : {A : Type 0} → ⊥ → A
nothing h = elim h [ ]

pub change_at : (f : Thing → Thing) (n : ℕ) (ts : List Thing) (i : ℕ) (d : Thing) → Rises n ts → i < length ts
    → change_of_serial f (slice_index_or ts i d).handle.serial ts ≡ slice_set ts i (f (slice_index_or ts i d))
change_at f n [] i d r lt = nothing (omega (arith, lt))
change_at f n (t ∷ ts) zero d r lt = if_true (t.handle.serial == t.handle.serial) (f t ∷ ts) (t ∷ change_of_serial f t.handle.serial ts) (eq-eqb t.handle.serial t.handle.serial refl)
change_at f n (t ∷ ts) (suc i) d r lt =
    let s = (slice_index_or ts i d).handle.serial in
    let h : t.handle.serial + 1 ≤ s = rises_at (t.handle.serial + 1) ts i d r.1 (omega (arith, lt)) in
    if_false (t.handle.serial == s) (f t ∷ ts) (t ∷ change_of_serial f s ts) (ne_eqb t.handle.serial s (λ e. omega (arith, h, e)))
    ∙ ap (λ xs. t ∷ xs) (change_at f (t.handle.serial + 1) ts i d r.1 (omega (arith, lt)))
