use Rattle.std.proofs.Common.{◌≡◌, ◌++◌, take, map, flat_map}
use Rattle.scene_text.specs.Seen.{name_seen}
use Rattle.scene_text.specs.WrittenParts.{resource_text}
use Rattle.scene_text.proofs.scene_writing.put_resource_lines.Given as goal

-- the text of those so far
abbrev pub invariant-loop-line : goal.invariant-loop-line
invariant-loop-line l = l.text.items ≡ l.initial.text.items ++ flat_map (resource_text (map name_seen l.names)) (take l.line-index l.lines)
