use Rattle.std.proofs.Common.{◌≡◌, ◌++◌, map, take}
use Rattle.scene_text.specs.Seen.{resource_line_seen}
use Rattle.item_lines.specs.Items.{no_place}
use Rattle.item_lines.proofs.places.put_resources.Given as goal

abbrev pub invariant-loop-line : goal.invariant-loop-line
invariant-loop-line l = l.places.items ≡ l.fn.places.items ++ map no_place (map resource_line_seen (take l._line-index l.lines))
