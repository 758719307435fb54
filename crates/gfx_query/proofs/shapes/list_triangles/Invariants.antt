use Rattle.std.proofs.Common.{◌≡◌, ◌≤◌, ◌+◌, ◌++◌, length, map}
use Rattle.std.specs.Prelude.{option_map, vec_len, vec_capacity}
use Rattle.gfx_model.specs.Vertex.{listed_triangles}
use Rattle.tri_cover.specs.Seen.{screen_seen}
use Rattle.tri_cover.specs.Shown.{setup_seen}
use Rattle.gfx_query.specs.Standing.{shown_of}
use Rattle.gfx_query.proofs.shapes.list_triangles.Given as goal

abbrev pub invariant-loop-rest : goal.invariant-loop-rest
invariant-loop-rest l = record {
  few : length l.triangles.items + length l.rest ≤ length l.vertices;
  len : vec_len l.triangles + length l.rest ≤ length l.vertices;
  room : vec_capacity l.triangles ≡ vec_capacity l.fn.triangles;
  shown : map setup_seen l.triangles.items ++ shown_of l.cull (listed_triangles (map (option_map screen_seen) l.rest)) ≡ shown_of l.cull (listed_triangles (map (option_map screen_seen) l.vertices));
}

abbrev pub decreases-loop-rest : goal.decreases-loop-rest
decreases-loop-rest l = length l.rest
