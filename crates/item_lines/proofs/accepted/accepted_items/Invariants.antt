use Rattle.std.proofs.Common.{◌≡◌}
use Rattle.scene_text.specs.Seen.{scene_seen}
use Rattle.dropped_lines.specs.Verdicts.{verdicts}
use Rattle.item_lines.specs.Items.{items_with}
use Rattle.item_lines.proofs.Merging.{Left}
use Rattle.item_lines.proofs.accepted.accepted_items.Given as goal

abbrev pub invariant-loop-index : goal.invariant-loop-index
invariant-loop-index l = Left l.numbers (verdicts (scene_seen l.scene)) l.places l.dropped l.index l.at l.items.items (items_with l.numbers (verdicts (scene_seen l.scene)) l.places)
