-- What is split at a separator is joined again by it.
use Rattle.std.proofs.Common.{◌≡◌, ℕ, eqb-true, Bool, true, false, ◌==◌, cond, List, [], ◌∷◌, ◌++◌, refl, ap, sym, ◌∙◌}
use Rattle.scene_model.specs.Field.{split_at, with_head}
use Rattle.scene_model.proofs.SplitLaws.{split-has}

-- parts with a separator between them
abbrev pub joined_by : ℕ → List (List ℕ) → List ℕ
joined_by c [] = []
joined_by c (p ∷ []) = p
joined_by c (p ∷ q ∷ rest) = p ++ c ∷ joined_by c (q ∷ rest)

joined_head : (c b : ℕ) (ps : List (List ℕ)) → joined_by c (with_head b ps) ≡ b ∷ joined_by c ps
joined_head c b [] = refl
joined_head c b (p ∷ []) = refl
joined_head c b (p ∷ q ∷ rest) = refl

joined_empty : (c : ℕ) (ps : List (List ℕ)) (p : List ℕ) (rest : List (List ℕ)) → ps ≡ p ∷ rest → joined_by c ([] ∷ ps) ≡ c ∷ joined_by c ps
joined_empty c ps p rest e = ap (λ k. joined_by c ([] ∷ k)) e ∙ ap (λ k. c ∷ joined_by c k) (sym e)

-- what is split is joined again
pub joined-split : (c : ℕ) (xs : List ℕ) → joined_by c (split_at c xs) ≡ xs
joined-split c [] = refl
joined-split c (x ∷ xs) = by (x == c) refl (joined-split c xs) (split-has c xs)
  where
    by : (t : Bool) → (x == c) ≡ t → joined_by c (split_at c xs) ≡ xs → (p : List ℕ) × (rest : List (List ℕ)) × (split_at c xs ≡ p ∷ rest) → joined_by c (cond t ([] ∷ split_at c xs) (with_head x (split_at c xs))) ≡ x ∷ xs
    by true h e r = let same : c ≡ x = sym (eqb-true _ _ h) in joined_empty c (split_at c xs) r.0 r.1 r.2 ∙ (λ i. same i ∷ e i)
    by false h e r = joined_head c x (split_at c xs) ∙ ap (λ k. x ∷ k) e
