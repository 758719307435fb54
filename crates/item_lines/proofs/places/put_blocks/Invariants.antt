use Rattle.std.proofs.Common.{◌≡◌, ◌++◌, map, take, flat_map}
use Rattle.scene_text.specs.Seen.{block_seen}
use Rattle.item_lines.specs.Items.{block_places}
use Rattle.item_lines.proofs.places.put_blocks.Given as goal

abbrev pub invariant-loop-block : goal.invariant-loop-block
invariant-loop-block l = l.places.items ≡ l.fn.places.items ++ flat_map (block_places l.frame) (map block_seen (take l.block-index l.blocks))
