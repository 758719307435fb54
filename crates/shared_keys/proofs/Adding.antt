-- One step more at the end of a vector of views.
use Rattle.std.proofs.Common.{◌≡◌, ℕ, zero, suc, Bool, true, false, ◌==◌, cond, List, [], ◌∷◌, ◌++◌, map, length, slice_index_or, slice_set, refl, sym, ap, subst, ◌∙◌, arith}
use Rattle.shared_keys.specs.declared.marks.SharedView.{SharedView}
use Rattle.shared_keys.specs.Marks.{shared_seen}
use Rattle.shared_keys.specs.Steps.{is_less, with_step}

self_test : (m n : ℕ) → m ≡ n → (m == n) ≡ true
self_test m n e = grind (arith, e)

same_from_test : (m n : ℕ) → (m == n) ≡ true → m ≡ n
same_from_test m n e = grind (arith, e)

other_test : (m n : ℕ) → (m ≡ n → ⊥) → (m == n) ≡ false
other_test m n h = go (m == n) refl
  where
    go : (b : Bool) → (m == n) ≡ b → b ≡ false
    go true e = absurd (h (same_from_test m n e))
    go false e = refl

one-left : (y s : SharedView) (b : Bool) → y.view ≡ s.view → is_less (s.first, s.second) (y.first, y.second) ≡ b
    → with_step (shared_seen y ∷ []) (shared_seen s) ≡ cond b (shared_seen s ∷ []) (shared_seen y ∷ [])
one-left y s b v l =
    (λ i. cond (self_test y.view s.view v i) (cond (is_less (s.first, s.second) (y.first, y.second)) (shared_seen s ∷ []) (shared_seen y ∷ [])) (shared_seen y ∷ shared_seen s ∷ []))
    ∙ (λ i. cond (l i) (shared_seen s ∷ []) (shared_seen y ∷ []))

pub set-last : (xs : List SharedView) (n : ℕ) (s x : SharedView) → length xs ≡ suc n → x ≡ slice_index_or xs n x → x.view ≡ s.view → is_less (s.first, s.second) (x.first, x.second) ≡ true
    → map shared_seen (slice_set xs n s) ≡ with_step (map shared_seen xs) (shared_seen s)
set-last [] n s x e at v l = absurd (omega (arith, e))
set-last (y ∷ []) zero s x e at v l = sym (subst (λ (z : SharedView). with_step (shared_seen z ∷ []) (shared_seen s) ≡ shared_seen s ∷ []) at (one-left x s true v l))
set-last (y ∷ []) (suc n) s x e at v l = absurd (omega (arith, e))
set-last (y ∷ z ∷ rest) zero s x e at v l = absurd (omega (arith, e))
set-last (y ∷ z ∷ rest) (suc n) s x e at v l = ap (λ zs. shared_seen y ∷ zs) (set-last (z ∷ rest) n s x (omega (arith, e)) at v l)

pub keep-last : (xs : List SharedView) (n : ℕ) (s x : SharedView) → length xs ≡ suc n → x ≡ slice_index_or xs n x → x.view ≡ s.view → is_less (s.first, s.second) (x.first, x.second) ≡ false
    → map shared_seen xs ≡ with_step (map shared_seen xs) (shared_seen s)
keep-last [] n s x e at v l = absurd (omega (arith, e))
keep-last (y ∷ []) zero s x e at v l = sym (subst (λ (z : SharedView). with_step (shared_seen z ∷ []) (shared_seen s) ≡ shared_seen z ∷ []) at (one-left x s false v l))
keep-last (y ∷ []) (suc n) s x e at v l = absurd (omega (arith, e))
keep-last (y ∷ z ∷ rest) zero s x e at v l = absurd (omega (arith, e))
keep-last (y ∷ z ∷ rest) (suc n) s x e at v l = ap (λ zs. shared_seen y ∷ zs) (keep-last (z ∷ rest) n s x (omega (arith, e)) at v l)

pub add-last : (xs : List SharedView) (n : ℕ) (s x : SharedView) → length xs ≡ suc n → x ≡ slice_index_or xs n x → (x.view ≡ s.view → ⊥)
    → map shared_seen (xs ++ s ∷ []) ≡ with_step (map shared_seen xs) (shared_seen s)
add-last [] n s x e at v = absurd (omega (arith, e))
add-last (y ∷ []) zero s x e at v =
    sym (λ i. cond (other_test y.view s.view (subst (λ (z : SharedView). z.view ≡ s.view → ⊥) at v) i) (cond (is_less (s.first, s.second) (y.first, y.second)) (shared_seen s ∷ []) (shared_seen y ∷ [])) (shared_seen y ∷ shared_seen s ∷ []))
add-last (y ∷ []) (suc n) s x e at v = absurd (omega (arith, e))
add-last (y ∷ z ∷ rest) zero s x e at v = absurd (omega (arith, e))
add-last (y ∷ z ∷ rest) (suc n) s x e at v = ap (λ zs. shared_seen y ∷ zs) (add-last (z ∷ rest) n s x (omega (arith, e)) at v)
