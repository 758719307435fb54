-- What is told of a pixel of the frame buffer of a name.
use Rattle.std.specs.Prelude.{◌≡◌, ℕ, List, Option, Some, None, IsSome}
use Rattle.gfx_model.specs.Words.{Handle}
use Rattle.target_scenes.specs.declared.told.TargetText.{TargetText}
use Rattle.target_scenes.specs.declared.told.TargetText.TheVariants as texts

-- the lines; or that no view of the frame draws on the name, or that the frame buffer has no such pixel
abbrev pub IsTextOf : TargetText → (named : Option Handle) → (lines : Option (List ℕ)) → Type 0
IsTextOf (texts.Lines text) named lines = lines ≡ Some text.items
IsTextOf texts.NoTarget named lines = (named ≡ None) × (lines ≡ None)
IsTextOf texts.NoPixel named lines = IsSome named × (lines ≡ None)
