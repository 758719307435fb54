-- The text of a refusal.
use Rattle.std.proofs.Common.{◌≡◌, ◌∙◌, ℕ, List, ◌++◌, ap, append_assoc}
use Rattle.std.specs.Prelude.{codes}
use Rattle.gfx_trace.specs.Refusals.{target_front, target_line}

-- the line of a name, from its front on
pub line_built : (frame : ℕ) (name a b c : List ℕ) → a ≡ target_front frame → b ≡ a ++ name → c ≡ b ++ codes "\n" → c ≡ target_line frame name
line_built frame name a b c front middle end =
    end ∙ ap (λ (x : List ℕ). x ++ codes "\n") (middle ∙ ap (λ (x : List ℕ). x ++ name) front) ∙ append_assoc (target_front frame) name (codes "\n")
