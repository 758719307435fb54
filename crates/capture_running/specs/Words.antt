-- The words after the program's name.
use Rattle.std.specs.Prelude.{ℕ, List, [], ◌∷◌, Option, Some, None, if◌then◌else◌, codes, bytes_eq}
use Rattle.capture_running.specs.declared.words.Mode.{Mode}
use Rattle.capture_running.specs.declared.words.Mode.TheVariants as modes

-- what a word asks for
abbrev pub mode_named : List ℕ → Option Mode
mode_named word =
    if bytes_eq word (codes "record") then Some modes.Record else
    (if bytes_eq word (codes "show") then Some modes.Show else None)

-- what the words ask for: one of them, alone
abbrev pub mode_of : List (List ℕ) → Option Mode
mode_of (word ∷ []) = mode_named word
mode_of words = None
