-- The report of a scene from its frames' numbers of items and of dropped lines.
use Rattle.std.specs.Prelude.{ℕ, ◌+◌, List, [], ◌∷◌, ◌++◌, decimal, codes}
use Rattle.scene_model.specs.Fold.{FramePlan}
use Rattle.scene_model.specs.Output.{frame_items, frame_dropped}

-- the numbers of a frame's accepted items and of its dropped lines
abbrev pub noted_of : FramePlan → ℕ × ℕ
noted_of p = (frame_items p, frame_dropped p)

-- the report's line of a frame with such numbers
abbrev pub note_line : ℕ → ℕ × ℕ → List ℕ
note_line k n = codes "frame " ++ (decimal k ++ (codes " items " ++ (decimal n.0 ++ (codes " dropped " ++ (decimal n.1 ++ codes "\n")))))

-- the lines of frames from number k on
abbrev pub note_lines : ℕ → List (ℕ × ℕ) → List ℕ
note_lines k [] = []
note_lines k (n ∷ rest) = note_line k n ++ note_lines (k + 1) rest
