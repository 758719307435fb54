-- Words that ask for nothing.
use Rattle.std.proofs.Common.{◌≡◌, ℕ, List, [], ◌∷◌, length, None, refl}
use Rattle.gfx_trace.specs.Words.{job_of}

-- they are not two, not four and not six
pub no_job : (words : List (List ℕ)) → (length words ≡ 2 → ⊥) → (length words ≡ 4 → ⊥) → (length words ≡ 6 → ⊥) → None ≡ job_of words
no_job [] two four six = refl
no_job (a ∷ []) two four six = refl
no_job (a ∷ b ∷ []) two four six = absurd (two refl)
no_job (a ∷ b ∷ c ∷ []) two four six = refl
no_job (a ∷ b ∷ c ∷ d ∷ []) two four six = absurd (four refl)
no_job (a ∷ b ∷ c ∷ d ∷ e ∷ []) two four six = refl
no_job (a ∷ b ∷ c ∷ d ∷ e ∷ f ∷ []) two four six = absurd (six refl)
no_job (a ∷ b ∷ c ∷ d ∷ e ∷ f ∷ g ∷ words) two four six = refl
