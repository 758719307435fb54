use Rattle.std.proofs.Common.{◌≡◌, map}
use Rattle.std.specs.List.{range_with_len}
use Rattle.scene_text.specs.Seen.{scene_seen}
use Rattle.item_lines.specs.Items as model
use Rattle.item_lines.proofs.items.item_lines.Given as goal

abbrev pub invariant-loop-encoder : goal.invariant-loop-encoder
invariant-loop-encoder l = model.numbers_seen l.numbers.items ≡ map (model.encoder_item_lines l.bytes (scene_seen l.scene) l.frame) (range_with_len 0 l.encoder)
