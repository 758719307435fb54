use Rattle.std.proofs.Common.{◌≡◌, ◌≤◌, ◌+◌, ◌-◌, ◌*◌, ℕ, List}
use Rattle.gfx_model.proofs.PartlyMapped.{partly}
use Rattle.tri_cover.specs.Widened.{wide_at}
use Rattle.gfx_query.specs.Counting.{Counted}
use Rattle.gfx_query.specs.Standing.{Stand, facing_with, place_change}
use Rattle.gfx_query.proofs.spans.count_span.Given as goal

-- the pixels before the column are counted, and the depth stands at it
abbrev pub invariant-loop-x : goal.invariant-loop-x
invariant-loop-x l = record {
  new : l.new ≡ wide_at l.fn.depth l.x l.fn.y;
  few : l.passed ≤ l.x - l.fn.first;
  counted : (n : ℕ) (ps : List Counted) →
      Stand l.fn.words n (partly (place_change l.fn.sides.width l.fn.tests.state (facing_with l.fn.tests.stencil l.fn.setup)) 0 (l.fn.y * l.fn.sides.width + l.fn.first) ps) →
      Stand l.words (n + l.passed) (partly (place_change l.fn.sides.width l.fn.tests.state (facing_with l.fn.tests.stencil l.fn.setup)) 0 (l.fn.y * l.fn.sides.width + l.x) ps);
}
