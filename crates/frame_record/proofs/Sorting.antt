-- A stable sort by the key is the order of the definitions.
use mathlib.Core.Logic.{dite, ⊎_elim}
use native.Mathlib.Decide.{ℕ_discrete}
use Rattle.std.proofs.Common.{◌≡◌, ◌≢◌, ◌⊎◌, ℕ, suc, ◌<◌, ◌≤◌, ◌==◌, Bool, true, false, cond, not, List, [], ◌∷◌, map, length, filter, get_or, refl, ap, sym, ◌∙◌, inl, inr, arith}
use Rattle.std.specs.Prelude.{◌&&◌, nat_lt}
use Rattle.std.specs.Ordering.{is_lt, nat_cmp}
use Rattle.std.specs.List.Sorted.{ties, IsStableByKey, IsNonDecreasingBy}
use Rattle.std.proofs.lemmas.Bool.{cases_order, ne_eqb, eq-eqb, lt-ltb}
use Rattle.gfx_model.specs.Frames as model
use Rattle.gfx_model.specs.World.{sorted_by_key}
use Rattle.gfx_model.proofs.OrderedLaws.{Ascends, at_key, stable-is-sorted}

tie : (m n : ℕ) → (not (is_lt (nat_cmp m n)) && not (is_lt (nat_cmp n m))) ≡ (n == m)
tie m n = elim (cases_order m n) [
  | inl e ↦ rw e (both n)
  | inr (inl l) ↦ rw (lt-ltb m n l, ne_eqb n m (λ h. omega (arith, l, h))) refl
  | inr (inr l) ↦ let no : nat_lt m n ≡ false = grind (arith, l) in rw (no, ne_eqb m n (λ h. omega (arith, l, h)), lt-ltb n m l, ne_eqb n m (λ h. omega (arith, l, h))) refl
]
  where
    both : (n : ℕ) → (not (is_lt (nat_cmp n n)) && not (is_lt (nat_cmp n n))) ≡ (n == n)
    both n = let no : nat_lt n n ≡ false = grind arith in rw (no, eq-eqb n n refl) refl

module _ {A : Type 0} (key : A → ℕ) (entry : A → model.Entry) where
  -- something's entry with its key
  abbrev keyed : A → ℕ × model.Entry
  keyed x = (key x, entry x)

  -- whether two have one key
  abbrev tied : A → A → Bool
  tied x y = ties (λ (a b : A). is_lt (nat_cmp (key a) (key b))) x y

  at-pairs : (k : ℕ) (x : A) (xs : List A) → key x ≡ k → at_key k (map keyed xs) ≡ map keyed (filter (tied x) xs)
  at-pairs k x [] e = refl
  at-pairs k x (y ∷ xs) e =
      let same : (key y == k) ≡ tied x y = ap (λ m. key y == m) (sym e) ∙ sym (tie (key x) (key y)) in
      ap (λ b. cond b (keyed y ∷ at_key k (map keyed xs)) (at_key k (map keyed xs))) same
      ∙ go (at-pairs k x xs e) (tied x y)
    where
      go : at_key k (map keyed xs) ≡ map keyed (filter (tied x) xs) → (b : Bool) → cond b (keyed y ∷ at_key k (map keyed xs)) (at_key k (map keyed xs)) ≡ map keyed (cond b (y ∷ filter (tied x) xs) (filter (tied x) xs))
      go rest true = ap (λ (ps : List (ℕ × model.Entry)). keyed y ∷ ps) rest
      go rest false = rest

  -- one of a key, or none of the list has it
  find_key : (k : ℕ) (xs : List A) → ((x : A) × (key x ≡ k)) ⊎ (at_key k (map keyed xs) ≡ [])
  find_key k [] = inr refl
  find_key k (x ∷ xs) = dite (ℕ_discrete (key x) k)
      (λ (e : key x ≡ k). inl (x, e))
      (λ (ne : key x ≢ k). ⊎_elim
      (λ (t : (x : A) × (key x ≡ k)). inl t)
      (λ (none : at_key k (map keyed xs) ≡ []). inr (ap (λ b. cond b (keyed x ∷ at_key k (map keyed xs)) (at_key k (map keyed xs))) (ne_eqb (key x) k ne) ∙ none))
      (find_key k xs))

  ascends-by : (low : ℕ) (ys : List A) → ((i : ℕ) (d : A) → i < length ys → low ≤ key (get_or ys i d)) → ((i j : ℕ) (d : A) → i ≤ j → j < length ys → key (get_or ys i d) ≤ key (get_or ys j d)) → Ascends low (map keyed ys)
  ascends-by low [] above up = tt
  ascends-by low (y ∷ ys) above up = (above 0 y (omega arith), ascends-by (key y) ys (λ i d lt. up 0 (suc i) d (omega arith) (omega arith)) (λ i j d le lt. up (suc i) (suc j) d (omega arith) (omega arith)))

  pub sorted-keys : (xs ys : List A) → IsNonDecreasingBy key ys → IsStableByKey key nat_cmp xs ys → map keyed ys ≡ sorted_by_key (map keyed xs)
  sorted-keys xs ys up stable =
      stable-is-sorted (map keyed xs) (map keyed ys) (ascends-by 0 ys (λ i d lt. omega arith) (λ i j d le lt. up i j d le lt)) same
    where
      by_item : (k : ℕ) → (x : A) × (key x ≡ k) → at_key k (map keyed ys) ≡ at_key k (map keyed xs)
      by_item k t = at-pairs k t.0 ys t.1 ∙ ap (map keyed) (stable t.0) ∙ sym (at-pairs k t.0 xs t.1)

      same : (k : ℕ) → at_key k (map keyed ys) ≡ at_key k (map keyed xs)
      same k = ⊎_elim (λ t. by_item k t) (λ none. ⊎_elim (λ t. by_item k t) (λ none'. none ∙ sym none') (find_key k xs)) (find_key k ys)
