-- Dropped lines among numbered ones.
use Rattle.std.specs.Prelude.{ℕ, ◌<◌, ◌==◌, Bool, false, List, [], ◌∷◌, Option, Some, None, ⊤}
use Rattle.std.specs.List.{AllByRecursion}
use Rattle.scene_check.specs.declared.found.DroppedLine.{DroppedLine}

-- each number is below those behind it
abbrev pub Ascend : List ℕ → Type 0
Ascend [] = ⊤
Ascend (n ∷ ns) = AllByRecursion (λ m. n < m) ns × Ascend ns

-- whether a dropped line, if there is one, has a number
abbrev pub is_line_of : ℕ → Option DroppedLine → Bool
is_line_of n None = false
is_line_of n (Some d) = d.line == n
