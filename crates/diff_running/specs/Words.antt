-- The words after the program's name.
use Rattle.std.specs.Prelude.{ℕ, List, [], ◌∷◌, Option, Some, None, if◌then◌else◌, codes, bytes_eq}
use Rattle.picture_diff.specs.Numbers.{number}
use Rattle.picture_diff.specs.Reading.{◌>>=◌}
use Rattle.diff_running.specs.declared.words.Asked.{Asked}

abbrev pub asked : (near : ℕ) → (frames : Option ℕ) → Asked
asked near frames = record { near = near; frames = frames }

-- what is let pass, and how many frames are asked for, by a word
abbrev pub near_of : List ℕ → Option ℕ
near_of word = number 255 word

abbrev pub count_of : List ℕ → Option ℕ
count_of word = number 4294967295 word

-- by the words behind both names
abbrev pub both : (near frames : List ℕ) → Option Asked
both near frames = do
  n ← near_of near
  k ← count_of frames
  Some (asked n (Some k))

-- by one name and the word behind it
abbrev pub one : (name value : List ℕ) → Option Asked
one name value =
    if bytes_eq name (codes "--near") then (near_of value >>= λ n. Some (asked n None)) else
    (if bytes_eq name (codes "--frames") then (count_of value >>= λ k. Some (asked 0 (Some k))) else None)

-- by two names in either order
abbrev pub two : (first value second other : List ℕ) → Option Asked
two first value second other =
    if bytes_eq first (codes "--near") then (if bytes_eq second (codes "--frames") then both value other else None) else
    (if bytes_eq first (codes "--frames") then (if bytes_eq second (codes "--near") then both other value else None) else None)

-- what the words ask for: `--near N` and `--frames K`, each once or not at all
abbrev pub asked_by : List (List ℕ) → Option Asked
asked_by [] = Some (asked 0 None)
asked_by (name ∷ value ∷ []) = one name value
asked_by (first ∷ value ∷ second ∷ other ∷ []) = two first value second other
asked_by words = None
