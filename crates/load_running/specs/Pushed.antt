-- How notes are put together.
use Rattle.std.specs.Prelude.{◌≡◌, Bool, true, false, ℕ, List, ◌++◌, Option, Some, None, option_map}

-- a line stands behind a text, or there is no line
abbrev pub IsPushed : Bool → Option (List ℕ) → (old new : List ℕ) → Type 0
IsPushed true line old new = option_map (λ l. old ++ l) line ≡ Some new
IsPushed false line old new = line ≡ None
