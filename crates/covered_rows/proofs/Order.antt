-- The order of runs.
use Rattle.std.proofs.Common.{◌≡◌, ℕ, suc, ◌+◌, ◌<◌, ◌≤◌, ◌⊎◌, inl, inr, Bool, true, false, nat_lt, ◌==◌, cond, List, [], ◌∷◌, length, slice_index_or, refl, sym, subst, arith}
use Rattle.std.specs.Ordering.{ordering_then, nat_cmp, is_lt}
use Rattle.std.specs.declared.cmp.Ordering.{Ordering}
use Rattle.std.specs.declared.cmp.Ordering.TheVariants.{Less, Equal, Greater}
use Rattle.covered_rows.specs.declared.runs.Run.{Run}
use Rattle.covered_rows.specs.Sweep.{ComesBefore, AreInOrderFrom, AreInOrder}

abbrev pub NotBehind : Run → Run → Type 0
NotBehind y x = is_lt (ordering_then (ordering_then (nat_cmp y.key x.key) (nat_cmp y.row x.row)) (nat_cmp y.first x.first)) ≡ false

same_from_test : (m n : ℕ) → (m == n) ≡ true → m ≡ n
same_from_test m n e = grind (arith, e)

above : (a b : ℕ) → nat_lt b a ≡ false → (b == a) ≡ false → a < b
above a b e f = grind (arith, e, f)

number-step : (a b : ℕ) (P : Ordering → Type 0) → P (nat_cmp b a) → (P Less → ⊥) → (a < b) ⊎ ((a ≡ b) × P Equal)
number-step a b P h bad = go (nat_lt b a) (b == a) refl refl h
  where
    go : (t u : Bool) → nat_lt b a ≡ t → (b == a) ≡ u → P (cond t Less (cond u Equal Greater)) → (a < b) ⊎ ((a ≡ b) × P Equal)
    go true u et eu h = absurd (bad h)
    go false true et eu h = inr (sym (same_from_test b a eu), h)
    go false false et eu h = inl (above a b et eu)

more : {A B C : Type 0} → A ⊎ (B × C) → {D : Type 0} → (C → D) → A ⊎ (B × D)
more (inl a) f = inl a
more (inr p) f = inr (p.0, f p.1)

clash : true ≡ false → ⊥
clash e = cc e

not_above : (a b : ℕ) → is_lt (nat_cmp b a) ≡ false → a ≤ b
not_above a b h = elim (number-step a b (λ o. is_lt o ≡ false) h clash) [ inl l ↦ omega (arith, l) | inr e ↦ let s = e.0 in omega (arith, s) ]

before-of : (x y : Run) → NotBehind y x → ComesBefore x y
before-of x y h =
    more (number-step x.key y.key (λ o. is_lt (ordering_then (ordering_then o (nat_cmp y.row x.row)) (nat_cmp y.first x.first)) ≡ false) h clash)
    (λ k. more (number-step x.row y.row (λ o. is_lt (ordering_then o (nat_cmp y.first x.first)) ≡ false) k clash) (λ e. not_above x.first y.first e))

in-order-from : (m : Run) (rest : List Run) → ((k : ℕ) (d : Run) → suc k < length (m ∷ rest) → NotBehind (slice_index_or (m ∷ rest) (suc k) d) (slice_index_or (m ∷ rest) k d)) → AreInOrderFrom m rest
in-order-from m [] h = tt
in-order-from m (n ∷ rest) h = (before-of m n (h 0 m (omega arith)), in-order-from n rest (λ k d l. h (suc k) d (omega (arith, l))))

pub in-order : (runs : List Run) → ((k : ℕ) (d : Run) → 0 ≤ k → k + 1 < length runs → NotBehind (slice_index_or runs (k + 1) d) (slice_index_or runs k d)) → AreInOrder runs
in-order [] h = tt
in-order (m ∷ rest) h = in-order-from m rest (λ k d l. let on : k + 1 ≡ suc k = omega arith in subst (λ i. NotBehind (slice_index_or (m ∷ rest) i d) (slice_index_or (m ∷ rest) k d)) on (h k d (omega arith) (omega (arith, l))))
