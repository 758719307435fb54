use Rattle.std.proofs.Common.{◌≡◌, ◌++◌, take, map, flat_map}
use Rattle.scene_text.specs.Seen.{name_seen}
use Rattle.scene_text.specs.WrittenParts.{block_text}
use Rattle.scene_text.proofs.scene_writing.put_blocks.Given as goal

-- the text of those so far
abbrev pub invariant-loop-block : goal.invariant-loop-block
invariant-loop-block l = l.text.items ≡ l.initial.text.items ++ flat_map (block_text (map name_seen l.names)) (take l.block-index l.blocks)
