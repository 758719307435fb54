-- What a load says: blocks of calls, each of a caller.
use Rattle.std.specs.Prelude.{ℕ, ◌==◌, if◌then◌else◌, List, [], ◌∷◌}
use Rattle.gfx_model.specs.Words.{ProgramKind, UniformKind}

-- what a line of a block does: it makes a program or a uniform, destroys what a create line of the block made (the create lines are counted from 0), or
-- ends the frame
pub data BlockLine : Type 0 where
  program_line : ProgramKind → BlockLine
  uniform_line : (name : List ℕ) → UniformKind → BlockLine
  destroy_line : (create_line : ℕ) → BlockLine
  frame_line : BlockLine

-- a caller and its lines
pub record Block : Type 0 where
  pub caller : ℕ
  pub lines : List BlockLine

-- the lines of a caller, and none where it has no block
abbrev pub lines_of : ℕ → List Block → List BlockLine
lines_of caller [] = []
lines_of caller (b ∷ rest) = if b.caller == caller then b.lines else lines_of caller rest
