use Rattle.std.proofs.Common.{◌≡◌, map, drop}
use Rattle.gfx_model.specs.Vertex.{find_attribute}
use Rattle.vertex_layout.specs.Kinds.{attribute_seen}
use Rattle.vertex_layout.specs.Placed.{placed_seen}
use Rattle.vertex_layout.proofs.attributes.AttrList.find.Given as goal

abbrev pub invariant-loop-placed : goal.invariant-loop-placed
invariant-loop-placed l = find_attribute (attribute_seen l.attr) (map placed_seen (drop l.placed-index l.placed-items)) ≡ find_attribute (attribute_seen l.attr) l.self
