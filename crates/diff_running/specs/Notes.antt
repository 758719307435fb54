-- The notes of what is refused.
use Rattle.std.specs.Prelude.{ℕ, List, ◌++◌, decimal, codes}

-- the picture with this number begins at this byte, and is none
abbrev pub picture_note : (pictures at : ℕ) → List ℕ
picture_note pictures at = codes "picture " ++ (decimal pictures ++ (codes " refused at byte " ++ (decimal at ++ codes "\n")))

-- so many pictures are no two streams
abbrev pub count_note : ℕ → List ℕ
count_note pictures = codes "streams refused: " ++ (decimal pictures ++ codes " pictures in all\n")

-- the pictures of this frame have other sides
abbrev pub sides_note : ℕ → List ℕ
sides_note frame = codes "frame " ++ (decimal frame ++ codes " refused: sides differ\n")

-- the words are refused
abbrev pub usage_note : List ℕ
usage_note = codes "usage: gfx_diff [--near N] [--frames K]\n"

-- the input is too long
abbrev pub length_note : List ℕ
length_note = codes "input is longer than 4294967296 bytes\n"
