-- What a view's target is refused for.
use Rattle.std.specs.Prelude.{Bool, List, [], ◌∷◌, Option, Some, None}
use Rattle.gfx_model.specs.Words.{Handle, frame_buffer_kind}
use Rattle.gfx_model.specs.Resources.{Resources, Refusal, is_not_kind, is_not_live}

-- the back buffer is always a target; a handle is one where it is a live frame buffer's
abbrev pub target_refusals : Resources → Option Handle → List (Bool × Refusal)
target_refusals r None = []
target_refusals r (Some h) = is_not_kind frame_buffer_kind h ∷ is_not_live r h ∷ []
