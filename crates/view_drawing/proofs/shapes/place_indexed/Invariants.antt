use Rattle.std.proofs.Common.{◌≡◌, map}
use Rattle.std.specs.Prelude.{option_map}
use Rattle.std.specs.List.{range_with_len}
use Rattle.gfx_model.specs.Vertex.{index_at, indexed_vertex}
use Rattle.tri_cover.specs.Seen.{screen_seen}
use Rattle.view_drawing.specs.Ranges.{vertex_range_seen}
use Rattle.view_drawing.specs.Shapes.{placed_by}
use Rattle.view_drawing.proofs.shapes.place_indexed.Given as goal

abbrev pub invariant-loop-number : goal.invariant-loop-number
invariant-loop-number l = map (option_map screen_seen) l.placed.items ≡ map (placed_by l.placement) (map (λ k. indexed_vertex (vertex_range_seen l.vertices) (index_at l.indices.bytes.now k)) (range_with_len l.indices.first l.number))
