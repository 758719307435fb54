-- What is so of each load that is read.
use Rattle.std.specs.Prelude.{◌≡◌, ◌⊎◌, ℕ, ◌+◌, ◌≤◌, ◌<◌, true, List, [], ◌∷◌, Some, Ok, ⊤, codes}
use Rattle.std.specs.List.{AllByRecursion}
use Rattle.scene_model.specs.Field.{split_at}
use Rattle.scene_model.specs.Grammar.{Field, field}
use Rattle.load_text.specs.Loads.{BlockLine, program_line, uniform_line, destroy_line, frame_line, Block}
use Rattle.load_text.specs.Text.{is_word, number, load_of}

-- the callers of the blocks ascend from a number on, and are below a count
abbrev pub AscendFrom : (low count : ℕ) → List Block → Type 0
AscendFrom low count [] = ⊤
AscendFrom low count (b ∷ blocks) = (low ≤ b.caller) × (b.caller < count) × AscendFrom (b.caller + 1) count blocks

-- where so many create lines came before, each destroy line is of a create line that comes before it
abbrev pub AreBound : ℕ → List BlockLine → Type 0
AreBound n [] = ⊤
AreBound n (program_line kind ∷ lines) = AreBound (n + 1) lines
AreBound n (uniform_line name kind ∷ lines) = AreBound (n + 1) lines
AreBound n (destroy_line create_line ∷ lines) = (create_line < n) × AreBound n lines
AreBound n (frame_line ∷ lines) = AreBound n lines

-- a line that ends the frame is of caller 0
abbrev pub MayStand : ℕ → BlockLine → Type 0
MayStand caller frame_line = caller ≡ 0
MayStand caller _ = ⊤

-- a block destroys only what its create lines before made, and ends frames only as caller 0
pub record IsBlock (b : Block) : Type 0 where
  pub bound : AreBound 0 b.lines
  pub frames : AllByRecursion (MayStand b.caller) b.lines

-- the blocks of a load of 1 to 8 callers: each caller has at most one, they ascend, and each is below the number of callers
pub record AreBlocks (count : ℕ) (blocks : List Block) : Type 0 where
  pub some : 1 ≤ count
  pub most : count ≤ 8
  pub ascend : AscendFrom 0 count blocks
  pub each : AllByRecursion IsBlock blocks

-- fields say the number of callers
abbrev pub SayCallers : ℕ → List Field → Type 0
SayCallers count fs = (is_word (codes "callers") fs ≡ true) × (number 1 8 (field fs 1) ≡ Some count)

-- one of the lines says the number of callers
abbrev pub HasCallers : ℕ → List (List ℕ) → Type 0
HasCallers count [] = ⊥
HasCallers count (line ∷ lines) = SayCallers count (split_at 32 line) ⊎ HasCallers count lines

-- a line of a text says the number of callers
abbrev pub IsTextOf : ℕ → List ℕ → Type 0
IsTextOf count bytes = HasCallers count (split_at 10 bytes)

-- what is read are the blocks of a load, of as many callers as a line says
abbrev pub LoadLaw : Type 0
LoadLaw = (bytes : List ℕ) (blocks : List Block) → load_of bytes ≡ Ok blocks → (count : ℕ) × IsTextOf count bytes × AreBlocks count blocks
