-- The lines of steps, one more.
use Rattle.std.proofs.Common.{◌≡◌, ◌∙◌, ℕ, zero, suc, ◌+◌, ◌<◌, ◌≤◌, List, [], ◌∷◌, ◌++◌, map, length, drop, get_or, Some, refl, sym, ap, arith, append_assoc, append-nil}
use Rattle.trace_lines.specs.declared.doers.Doer.{Doer}
use Rattle.trace_lines.specs.Numbered.{line_of}
use Rattle.trace_lines.specs.Seen.{doer_seen}
use Rattle.trace_lines.specs.Steps.{step_line, step_lines}

drop-suc : {A : Type 0} (xs : List A) (i : ℕ) (d : A) → i < length xs → drop i xs ≡ get_or xs i d ∷ drop (suc i) xs
drop-suc [] i d h = absurd (omega (arith, h))
drop-suc (x ∷ xs) zero d h = refl
drop-suc (x ∷ xs) (suc i) d h = drop-suc xs i d (omega (arith, h))

drop-next : {A : Type 0} (xs : List A) (i : ℕ) (d : A) → i < length xs → drop i xs ≡ get_or xs i d ∷ drop (i + 1) xs
drop-next xs i d h = drop-suc xs i d h ∙ ap (λ k. get_or xs i d ∷ drop k xs) same
  where
    same : suc i ≡ i + 1
    same = omega arith

drop-past : {A : Type 0} (xs : List A) (i : ℕ) → length xs ≤ i → drop i xs ≡ []
drop-past [] zero h = refl
drop-past [] (suc i) h = refl
drop-past (x ∷ xs) zero h = absurd (omega (arith, h))
drop-past (x ∷ xs) (suc i) h = drop-past xs i (omega (arith, h))

pub got-self : {A : Type 0} (xs : List A) (k : ℕ) (d : A) → k < length xs → get_or xs k (get_or xs k d) ≡ get_or xs k d
got-self [] k d h = absurd (omega (arith, h))
got-self (x ∷ xs) zero d h = refl
got-self (x ∷ xs) (suc k) d h = got-self xs k d (omega (arith, h))

module _ (numbers : List (List ℕ)) (ds : List Doer) (k : ℕ) where
  pub steps-next : (d : Doer) (text next whole : List ℕ) → k < length ds → get_or ds k d ≡ d
      → text ++ step_lines numbers (k + 1) (map doer_seen (drop k ds)) ≡ whole → next ≡ text ++ step_line (k + 1) (doer_seen d) (line_of numbers (Some (doer_seen d)))
      → next ++ step_lines numbers (k + 1 + 1) (map doer_seen (drop (k + 1) ds)) ≡ whole
  steps-next d text next whole lt is before step =
      let line : List ℕ = step_line (k + 1) (doer_seen d) (line_of numbers (Some (doer_seen d))) in
      let rest : List ℕ = step_lines numbers (k + 1 + 1) (map doer_seen (drop (k + 1) ds)) in
      ap (λ t. t ++ rest) step ∙ append_assoc text line rest
      ∙ ap (λ es. text ++ step_lines numbers (k + 1) (map doer_seen es)) (sym (drop-next ds k d lt ∙ ap (λ e. e ∷ drop (k + 1) ds) is))
      ∙ before

  pub steps-past : (text whole : List ℕ) → length ds ≤ k → text ++ step_lines numbers (k + 1) (map doer_seen (drop k ds)) ≡ whole → text ≡ whole
  steps-past text whole le before =
      sym (append-nil text) ∙ ap (λ es. text ++ step_lines numbers (k + 1) (map doer_seen es)) (sym (drop-past ds k le)) ∙ before
