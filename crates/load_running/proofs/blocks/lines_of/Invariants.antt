use Rattle.std.proofs.Common.{◌≡◌, map, drop}
use Rattle.load_text.specs.Loads.{lines_of}
use Rattle.load_text.specs.Seen.{block_seen}
use Rattle.load_running.proofs.blocks.lines_of.Given as goal

-- the blocks that are left have the caller's lines
abbrev pub invariant-loop-block : goal.invariant-loop-block
invariant-loop-block l = lines_of l.caller (map block_seen (drop l.block-index l.blocks)) ≡ lines_of l.caller (map block_seen l.blocks)
