-- Views that are left one after another.
use Rattle.std.proofs.Common.{◌≡◌, ◌∙◌, ℕ, zero, suc, ◌+◌, ◌<◌, ◌≤◌, inl, inr, Bool, true, false, cond, List, [], ◌∷◌, ◌++◌, map, take, length, get_or, refl, sym, ap, subst}
use Rattle.std.proofs.lemmas.List.{take_more, take_all, map-append}
use Rattle.shared_keys.specs.declared.marks.SharedView.{SharedView}
use Rattle.shared_keys.specs.Marks.{shared_seen}
use Rattle.shared_keys.specs.Members.{In}
use Rattle.harmless_views.specs.Left.{AreLeft}

-- what stands at a place, whatever stands for what is not there
pub got-self : {A : Type 0} (xs : List A) (i : ℕ) (d : A) → get_or xs i (get_or xs i d) ≡ get_or xs i d
got-self [] i d = refl
got-self (x ∷ xs) zero d = refl
got-self (x ∷ xs) (suc i) d = got-self xs i d

abbrev Listed : Type 0
Listed = List (ℕ × (ℕ × ℕ))

module _ (P Q : ℕ → Type 0) where
  -- one view more is kept
  left-kept : (xs kept : Listed) (x : ℕ × (ℕ × ℕ)) → Q x.0 → AreLeft P Q xs kept → AreLeft P Q (xs ++ x ∷ []) (kept ++ x ∷ [])
  left-kept [] kept x q h = inr (q, ([], (ap (λ (ks : Listed). ks ++ x ∷ []) h, refl)))
  left-kept (y ∷ xs) kept x q (inl h) = inl (h.0, left-kept xs kept x q h.1)
  left-kept (y ∷ xs) kept x q (inr h) = inr (h.0, (h.1.0 ++ x ∷ [], (ap (λ (ks : Listed). ks ++ x ∷ []) h.1.1.0, left-kept xs h.1.0 x q h.1.1.1)))

  -- or it has the property
  left-out : (xs kept : Listed) (x : ℕ × (ℕ × ℕ)) → P x.0 → AreLeft P Q xs kept → AreLeft P Q (xs ++ x ∷ []) kept
  left-out [] kept x p h = inl (p, h)
  left-out (y ∷ xs) kept x p (inl h) = inl (h.0, left-out xs kept x p h.1)
  left-out (y ∷ xs) kept x p (inr h) = inr (h.0, (h.1.0, (h.1.1.0, left-out xs h.1.0 x p h.1.1.1)))

  pub left-none : (all : List SharedView) → AreLeft P Q (map shared_seen (take 0 all)) []
  left-none [] = refl
  left-none (v ∷ all) = refl

  seen-more : (all : List SharedView) (i : ℕ) (v : SharedView) → i < length all → get_or all i v ≡ v → map shared_seen (take (i + 1) all) ≡ map shared_seen (take i all) ++ shared_seen v ∷ []
  seen-more all i v lt is = ap (map shared_seen) (take_more all i v lt ∙ ap (λ z. take i all ++ z ∷ []) is) ∙ map-append shared_seen (take i all) (v ∷ [])

  pub more-kept : (all kept new : List SharedView) (i : ℕ) (v : SharedView) → i < length all → get_or all i v ≡ v → new ≡ kept ++ v ∷ [] → Q v.view
      → AreLeft P Q (map shared_seen (take i all)) (map shared_seen kept) → AreLeft P Q (map shared_seen (take (i + 1) all)) (map shared_seen new)
  more-kept all kept new i v lt is more q h =
      let last : map shared_seen new ≡ map shared_seen kept ++ shared_seen v ∷ [] = ap (map shared_seen) more ∙ map-append shared_seen kept (v ∷ []) in
      subst (λ (ks : Listed). AreLeft P Q (map shared_seen (take (i + 1) all)) ks) (sym last)
      (subst (λ (xs : Listed). AreLeft P Q xs (map shared_seen kept ++ shared_seen v ∷ [])) (sym (seen-more all i v lt is)) (left-kept (map shared_seen (take i all)) (map shared_seen kept) (shared_seen v) q h))

  pub more-out : (all kept : List SharedView) (i : ℕ) (v : SharedView) → i < length all → get_or all i v ≡ v → P v.view
      → AreLeft P Q (map shared_seen (take i all)) (map shared_seen kept) → AreLeft P Q (map shared_seen (take (i + 1) all)) (map shared_seen kept)
  more-out all kept i v lt is p h =
      subst (λ (xs : Listed). AreLeft P Q xs (map shared_seen kept)) (sym (seen-more all i v lt is)) (left-out (map shared_seen (take i all)) (map shared_seen kept) (shared_seen v) p h)

  -- one view more, by what was judged of it
  more-left : (all kept new : List SharedView) (i : ℕ) (v : SharedView) (b : Bool) → i < length all → get_or all i v ≡ v → new ≡ cond b kept (kept ++ v ∷ []) → (b ≡ true → P v.view) → (b ≡ false → Q v.view)
      → AreLeft P Q (map shared_seen (take i all)) (map shared_seen kept) → AreLeft P Q (map shared_seen (take (i + 1) all)) (map shared_seen new)
  more-left all kept new i v true lt is more p q h = subst (λ (ks : List SharedView). AreLeft P Q (map shared_seen (take (i + 1) all)) (map shared_seen ks)) (sym more) (more-out all kept i v lt is (p refl) h)
  more-left all kept new i v false lt is more p q h = more-kept all kept new i v lt is more (q refl) h

  pub more-left-at : (all kept new : List SharedView) (i : ℕ) (d : SharedView) (b : Bool) → i < length all → new ≡ cond b kept (kept ++ get_or all i d ∷ []) → (b ≡ true → P (get_or all i d).view) → (b ≡ false → Q (get_or all i d).view)
      → AreLeft P Q (map shared_seen (take i all)) (map shared_seen kept) → AreLeft P Q (map shared_seen (take (i + 1) all)) (map shared_seen new)
  more-left-at all kept new i d b lt = more-left all kept new i (get_or all i d) b lt (got-self all i d)

  pub all-left : (all kept : List SharedView) (i : ℕ) → length all ≤ i → AreLeft P Q (map shared_seen (take i all)) (map shared_seen kept) → AreLeft P Q (map shared_seen all) (map shared_seen kept)
  all-left all kept i le h = subst (λ (vs : List SharedView). AreLeft P Q (map shared_seen vs) (map shared_seen kept)) (take_all i all le) h

  -- where none is left, each has it
  pub none-left : (xs kept : Listed) (x : ℕ × (ℕ × ℕ)) → AreLeft P Q xs kept → kept ≡ [] → In x xs → P x.0
  none-left [] kept x h none i = absurd i
  none-left (y ∷ xs) kept x (inl h) none (inl same) = subst (λ (z : ℕ × (ℕ × ℕ)). P z.0) (sym same) h.0
  none-left (y ∷ xs) kept x (inl h) none (inr i) = none-left xs kept x h.1 none i
  none-left (y ∷ xs) kept x (inr h) none i = absurd (cc (sym h.1.1.0 ∙ none))

-- by other properties, of views of a list
pub left-by : (P Q R S : ℕ → Type 0) (xs kept : Listed) → ((x : ℕ × (ℕ × ℕ)) → In x xs → P x.0 → R x.0) → ((x : ℕ × (ℕ × ℕ)) → In x xs → Q x.0 → S x.0) → AreLeft P Q xs kept → AreLeft R S xs kept
left-by P Q R S [] kept f g h = h
left-by P Q R S (x ∷ xs) kept f g (inl h) = inl (f x (inl refl) h.0, left-by P Q R S xs kept (λ z i. f z (inr i)) (λ z i. g z (inr i)) h.1)
left-by P Q R S (x ∷ xs) kept f g (inr h) = inr (g x (inl refl) h.0, (h.1.0, (h.1.1.0, left-by P Q R S xs h.1.0 (λ z i. f z (inr i)) (λ z i. g z (inr i)) h.1.1.1)))
