-- The line of a frame.
use Rattle.std.specs.Prelude.{ℕ, List, [], ◌∷◌, ◌+◌, ◌++◌, decimal, codes, Option, Some, None}
use Rattle.picture_diff.specs.declared.difference.Difference.{Difference}
use Rattle.picture_diff.specs.declared.difference.Spread.{Spread}

-- the numbers of a line
abbrev pub counts_text : ℕ → Difference → List ℕ
counts_text k d =
    codes "frame " ++ (decimal k ++ (codes " pixels " ++ (decimal d.pixels ++ (codes " differ " ++ (decimal d.differ ++ (codes " most " ++ decimal d.most))))))

-- the first place and the box, where a pixel differs
abbrev pub spread_text : Option Spread → List ℕ
spread_text None = []
spread_text (Some s) =
    codes " first " ++ (decimal s.first.x ++ (codes " " ++ (decimal s.first.y
    ++ (codes " within " ++ (decimal s.left ++ (codes " " ++ (decimal s.top ++ (codes " " ++ (decimal s.right ++ (codes " " ++ decimal s.bottom))))))))))

-- the line of frame k
abbrev pub frame_line : ℕ → Difference → List ℕ
frame_line k d = counts_text k d ++ (spread_text d.spread ++ codes "\n")

-- the lines of frames, from number k on
abbrev pub frame_lines : ℕ → List Difference → List ℕ
frame_lines k [] = []
frame_lines k (d ∷ ds) = frame_line k d ++ frame_lines (k + 1) ds
