-- Sorting by key, and the elements that a test keeps.
use Rattle.std.proofs.Common.{◌≡◌, ℕ, ◌≤◌, ◌==◌, Bool, true, false, cond, List, [], ◌∷◌, map, filter, refl, ap, sym, ◌∙◌, arith}
use Rattle.gfx_model.specs.World.{sorted_by_key}
use Rattle.gfx_model.proofs.OrderedLaws.{Ascends, at_key, ascending-unique, sorted-ascends, sorted-at_key}

pub filter-second : {A : Type 0} (s : A → Bool) (xs : List (ℕ × A)) → filter s (map (λ x. x.1) xs) ≡ map (λ x. x.1) (filter (λ x. s x.1) xs)
filter-second s [] = refl
filter-second s (x ∷ xs) = go (filter-second s xs) (s x.1)
  where
    go : filter s (map (λ x. x.1) xs) ≡ map (λ x. x.1) (filter (λ x. s x.1) xs) → (b : Bool)
        → cond b (x.1 ∷ filter s (map (λ x. x.1) xs)) (filter s (map (λ x. x.1) xs)) ≡ map (λ x. x.1) (cond b (x ∷ filter (λ x. s x.1) xs) (filter (λ x. s x.1) xs))
    go rest true = ap (λ zs. x.1 ∷ zs) rest
    go rest false = rest

pub filter-comm : {A : Type 0} (p q : A → Bool) (xs : List A) → filter p (filter q xs) ≡ filter q (filter p xs)
filter-comm p q [] = refl
filter-comm {A} p q (x ∷ xs) = go (filter-comm p q xs) (p x) (q x) refl refl
  where
    go : filter p (filter q xs) ≡ filter q (filter p xs) → (b c : Bool) → p x ≡ b → q x ≡ c → filter p (cond c (x ∷ filter q xs) (filter q xs)) ≡ filter q (cond b (x ∷ filter p xs) (filter p xs))
    go rest true true e f =
        ap (λ d. cond d (x ∷ filter p (filter q xs)) (filter p (filter q xs))) e ∙ ap (λ zs. x ∷ zs) rest
        ∙ sym (ap (λ d. cond d (x ∷ filter q (filter p xs)) (filter q (filter p xs))) f)
    go rest true false e f = rest ∙ sym (ap (λ d. cond d (x ∷ filter q (filter p xs)) (filter q (filter p xs))) f)
    go rest false true e f = ap (λ d. cond d (x ∷ filter p (filter q xs)) (filter p (filter q xs))) e ∙ rest
    go rest false false e f = rest

pub weaken : {A : Type 0} (low bound : ℕ) (xs : List (ℕ × A)) → low ≤ bound → Ascends bound xs → Ascends low xs
weaken low bound [] h a = tt
weaken low bound (x ∷ xs) h a = (let l : bound ≤ x.0 = a.0 in omega (arith, h, l), a.1)

pub Ascends-filter : {A : Type 0} (r : ℕ × A → Bool) (low : ℕ) (xs : List (ℕ × A)) → Ascends low xs → Ascends low (filter r xs)
Ascends-filter r low [] a = tt
Ascends-filter r low (x ∷ xs) a = go (Ascends-filter r x.0 xs a.1) (r x)
  where
    go : Ascends x.0 (filter r xs) → (b : Bool) → Ascends low (cond b (x ∷ filter r xs) (filter r xs))
    go rest true = (a.0, rest)
    go rest false = weaken low x.0 (filter r xs) a.0 rest

pub at_key-filter : {A : Type 0} (s : A → Bool) (k : ℕ) (xs : List (ℕ × A)) → at_key k (filter (λ x. s x.1) (sorted_by_key xs)) ≡ at_key k (filter (λ x. s x.1) xs)
at_key-filter s k xs =
    filter-comm (λ x. x.0 == k) (λ x. s x.1) (sorted_by_key xs) ∙ ap (filter (λ x. s x.1)) (sorted-at_key k xs) ∙ filter-comm (λ x. s x.1) (λ x. x.0 == k) xs

-- two lists whose kept elements are the same at each key are sorted to the same kept elements
pub sorted-same : {A : Type 0} (s : A → Bool) (xs ys : List (ℕ × A)) → ((k : ℕ) → at_key k (filter (λ x. s x.1) xs) ≡ at_key k (filter (λ x. s x.1) ys))
    → filter (λ x. s x.1) (sorted_by_key xs) ≡ filter (λ x. s x.1) (sorted_by_key ys)
sorted-same s xs ys h =
    ascending-unique 0 (filter (λ x. s x.1) (sorted_by_key xs)) (filter (λ x. s x.1) (sorted_by_key ys))
    (Ascends-filter (λ x. s x.1) 0 (sorted_by_key xs) (sorted-ascends xs)) (Ascends-filter (λ x. s x.1) 0 (sorted_by_key ys) (sorted-ascends ys))
    (λ k. at_key-filter s k xs ∙ h k ∙ sym (at_key-filter s k ys))

-- kept elements that ascend already stay
pub sorted-stays : {A : Type 0} (s : A → Bool) (xs : List (ℕ × A)) → Ascends 0 (filter (λ x. s x.1) xs) → filter (λ x. s x.1) (sorted_by_key xs) ≡ filter (λ x. s x.1) xs
sorted-stays s xs a =
    ascending-unique 0 (filter (λ x. s x.1) (sorted_by_key xs)) (filter (λ x. s x.1) xs)
    (Ascends-filter (λ x. s x.1) 0 (sorted_by_key xs) (sorted-ascends xs)) a (λ k. at_key-filter s k xs)
