use Rattle.std.proofs.Common.{◌≡◌, map, take}
use Rattle.vertex_layout.specs.Building.{built}
use Rattle.scene_text.specs.Seen.{part_seen}
use Rattle.scene_lines.proofs.layouts.layout_of.Given as goal

abbrev pub invariant-loop-part : goal.invariant-loop-part
invariant-loop-part l = l.builder ≡ built (map part_seen (take l.part-index l.parts))
