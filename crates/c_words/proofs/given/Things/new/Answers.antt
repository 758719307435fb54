use Rattle.std.proofs.Common.{◌≡◌, Option, Some, None, refl}
use Rattle.gfx_model.specs.Words.{Handle}
use Rattle.c_words.proofs.given.Things.new.Goals as goal

-- a copy of nothing is nothing
copied : (R : Option Handle → Type 0) → ((h : Handle) → R (Some h) → ⊥) → (y : Option Handle) → R y → y ≡ None
copied R never None k = refl
copied R never (Some h) k = absurd (never h k)

pub returns : goal.returns
returns c = c.in_ok-from_elem.ensures.items_if_clones_equal (copied _ (λ h r. r))
