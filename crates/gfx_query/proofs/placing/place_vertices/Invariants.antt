use Rattle.std.proofs.Common.{◌≡◌, length, map}
use Rattle.std.specs.Prelude.{vec_len, vec_capacity}
use Rattle.std.specs.Prelude.{option_map}
use Rattle.std.specs.List.{range_with_len}
use Rattle.gfx_model.specs.Vertex.{fetch}
use Rattle.fix_math.specs.Seen.{affine_seen}
use Rattle.tri_cover.specs.Seen.{screen_seen}
use Rattle.gfx_query.specs.Draws.{position_layout, instance_vertex}
use Rattle.gfx_query.proofs.placing.place_vertices.Given as goal

abbrev pub invariant-loop-number : goal.invariant-loop-number
invariant-loop-number l = record {
  placed : map (option_map screen_seen) l.placed.items ≡ map (instance_vertex l.fn.sides.width l.fn.sides.height (affine_seen l.fn.model)) (map (λ i. fetch position_layout l.fn.bytes i) (range_with_len 0 l.number));
  few : length l.placed.items ≡ l.number;
  len : vec_len l.placed ≡ l.number;
  room : vec_capacity l.placed ≡ vec_capacity l.fn.placed;
}
