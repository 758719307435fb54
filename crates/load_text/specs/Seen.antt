-- The crate's types as the definitions see them.
use Rattle.std.specs.Prelude.{◌≡◌, ℕ, List, map, Result, Ok, Err}
use Rattle.std.specs.Global.{Vec}
use Rattle.gfx_words.specs.Kinds.{program_seen, uniform_seen}
use Rattle.load_text.specs.Loads as model
use Rattle.load_text.specs.declared.load.BlockLine.{BlockLine}
use Rattle.load_text.specs.declared.load.BlockLine.TheVariants as lines
use Rattle.load_text.specs.declared.load.Block.{Block}
use Rattle.load_text.specs.declared.text.LoadFault.{LoadFault}
use Rattle.load_text.specs.declared.text.LoadFault.TheVariants as faults

-- a line that does the same
abbrev pub line_seen : BlockLine → model.BlockLine
line_seen (lines.Program kind) = model.program_line (program_seen kind)
line_seen (lines.Uniform name kind) = model.uniform_line name.items (uniform_seen kind)
line_seen (lines.Destroy create_line) = model.destroy_line create_line
line_seen lines.Frame = model.frame_line

-- the same lines of the same caller
abbrev pub block_seen : Block → model.Block
block_seen b = record { caller = b.caller; lines = map line_seen b.lines.items }

-- the blocks or the line of the definition, unless memory ran out
abbrev pub ReadsLoad : Result (Vec Block) LoadFault → Result (List model.Block) ℕ → Type 0
ReadsLoad (Ok blocks) read = read ≡ Ok (map block_seen blocks.items)
ReadsLoad (Err (faults.Line line)) read = read ≡ Err line
ReadsLoad (Err faults.OutOfMemory) read = Unit {0}
