-- The law of the lines of items.
use Rattle.std.specs.Prelude.{◌≡◌, ℕ, List, [], ◌∷◌, ◌++◌, length, Ok, Some, slice_get}
use Rattle.scene_model.specs.Scene.{Scene}
use Rattle.scene_model.specs.Fold.{Accepted, FramePlan, plans}
use Rattle.scene_model.specs.Grammar.{scene_of, whole_language}
use Rattle.spelling_model.specs.Readable.{IsReadable}
use Rattle.item_lines.specs.Items.{encoder_item_lines, item_lines}

-- of a text that is a scene, as many lines record an encoder's items in a frame as the frame's plan has items of the encoder
abbrev pub ItemsLaw : Type 0
ItemsLaw = (bytes : List ℕ) (s : Scene) → scene_of whole_language bytes ≡ Ok s → IsReadable s
    → (k e : ℕ) (p : FramePlan) (a : Accepted) → slice_get (plans s) k ≡ Some p → slice_get p.encoders e ≡ Some a → length (encoder_item_lines bytes s k e) ≡ length a.items

-- what stands behind a text that is a scene, as a journal does, changes no number: a scene's text ends with a newline
abbrev pub BehindLaw : Type 0
BehindLaw = (bytes rest : List ℕ) (s : Scene) → scene_of whole_language (bytes ++ 10 ∷ []) ≡ Ok s
    → (k : ℕ) → item_lines (bytes ++ 10 ∷ rest) s k ≡ item_lines (bytes ++ 10 ∷ []) s k
