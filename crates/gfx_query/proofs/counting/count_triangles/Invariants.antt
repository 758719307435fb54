use Rattle.std.proofs.Common.{◌≤◌, ◌+◌, ◌*◌, ℕ, List, fold, take}
use Rattle.gfx_model.specs.Number.{map_from}
use Rattle.gfx_query.specs.Counting.{Counted}
use Rattle.gfx_query.specs.Standing.{Stand, facing_seen, place_change}
use Rattle.gfx_query.proofs.counting.count_triangles.Given as goal

-- the triangles before the index are counted
abbrev pub invariant-loop-setup : goal.invariant-loop-setup
invariant-loop-setup l = record {
  few : l.passed ≤ l.setup-index * 4194304;
  counted : (n : ℕ) (ps : List Counted) → Stand l.fn.words n ps →
      Stand l.words (n + l.passed) (fold (λ qs s. map_from (place_change l.fn.sides.width l.fn.draw.state (facing_seen l.fn.draw.front l.fn.draw.back s)) 0 qs) ps (take l.setup-index l.fn.triangles));
}
