use Rattle.std.proofs.Common.{◌≤◌, ◌+◌, ◌*◌, ◌^◌, ℕ, List, fold, map}
use Rattle.std.specs.Prelude.{◌≡◌, vec_capacity}
use Rattle.std.specs.List.{range_with_len}
use Rattle.gfx_query.specs.Counting.{Counted, counted_by}
use Rattle.gfx_query.specs.Draws.{vertices_in, instance_facings, transform_at}
use Rattle.gfx_query.specs.Standing.{Stand}
use Rattle.gfx_query.proofs.counting.count_instances.Given as goal

-- the instances before the number are counted
abbrev pub invariant-loop-number : goal.invariant-loop-number
invariant-loop-number l = record {
  few : l.passed ≤ l.number * 2 ^ 43;
  counted : (n : ℕ) (ps : List Counted) → Stand l.fn.words n ps →
      Stand l.words (n + l.passed) (fold (λ qs m. counted_by l.fn.sides.width l.fn.draw.state (instance_facings l.fn.sides.width l.fn.sides.height l.fn.draw.state l.fn.draw.front l.fn.draw.back (vertices_in l.fn.vertices) m) qs) ps
      (map (λ k. transform_at l.fn.instances (48 * k)) (range_with_len 0 l.number)));
  vertices : vec_capacity l.room.vertices ≡ vec_capacity l.fn.room.vertices;
  triangles : vec_capacity l.room.triangles ≡ vec_capacity l.fn.room.triangles;
}
