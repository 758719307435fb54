use Rattle.std.proofs.Common.{◌≤◌, ◌+◌, ◌*◌, ℕ, List}
use Rattle.gfx_model.proofs.PartlyMapped.{partly}
use Rattle.tri_cover.specs.Walked.{AreSides}
use Rattle.gfx_query.specs.Counting.{Counted}
use Rattle.gfx_query.specs.Standing.{Stand, facing_with, place_change}
use Rattle.gfx_query.proofs.spans.count_triangle.Given as goal

-- the rows above are counted, and the triangle's edges stand at the row
abbrev pub invariant-loop-y : goal.invariant-loop-y
invariant-loop-y l = record {
  edges : AreSides l.edges l.fn.setup l.y;
  high : l.y ≤ l.fn.sides.height;
  few : l.passed ≤ l.y * 2048;
  counted : (n : ℕ) (ps : List Counted) → Stand l.fn.words n ps →
      Stand l.words (n + l.passed) (partly (place_change l.fn.sides.width l.fn.tests.state (facing_with l.fn.tests.stencil l.fn.setup)) 0 (l.y * l.fn.sides.width) ps);
}
