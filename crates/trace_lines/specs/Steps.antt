-- The lines of a frame's steps, each item with the number of the line of the scene's text that records it.
use Rattle.std.specs.Prelude.{ℕ, ◌+◌, List, [], ◌∷◌, ◌++◌, Option, Some, decimal, codes}
use Rattle.trace_laws.specs.Doers.{Doer}
use Rattle.trace_laws.specs.Text.{doer_text}
use Rattle.trace_lines.specs.Numbered.{line_of, number_text}

-- the line of a step: its number, whose the deed before it is, and the number of the line of that
abbrev pub step_line : ℕ → Doer → Option ℕ → List ℕ
step_line n doer line = codes "step " ++ (decimal n ++ (doer_text (Some doer) ++ (number_text line ++ codes "\n")))

-- the lines of steps that are numbered from n on
abbrev pub step_lines : List (List ℕ) → ℕ → List Doer → List ℕ
step_lines numbers n [] = []
step_lines numbers n (d ∷ ds) = step_line n d (line_of numbers (Some d)) ++ step_lines numbers (n + 1) ds
