use Rattle.std.proofs.Common.{◌≡◌, ◌++◌, map, take}
use Rattle.scene_text.specs.Seen.{encoder_line_seen}
use Rattle.item_lines.specs.Items.{line_place}
use Rattle.item_lines.proofs.places.put_lines.Given as goal

abbrev pub invariant-loop-line : goal.invariant-loop-line
invariant-loop-line l = l.places.items ≡ l.fn.places.items ++ map (line_place l.frame l.encoder) (map encoder_line_seen (take l.line-index l.lines))
