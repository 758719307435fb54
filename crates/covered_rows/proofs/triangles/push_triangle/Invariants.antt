use Rattle.std.proofs.Common.{◌≤◌, ◌-◌}
use Rattle.fix_math.specs.Seen.{rect_seen}
use Rattle.tri_cover.specs.Seen.{triangle_seen}
use Rattle.covered_rows.specs.Covering.{AddsOnly, HasRowsBefore, IsOf, Keeps}
use Rattle.covered_rows.proofs.triangles.push_triangle.Given as goal

-- the pixels of the rows so far are in runs, and no others
abbrev pub invariant-loop-row : goal.invariant-loop-row
invariant-loop-row l = record {
  keeps : Keeps l.fn.runs.items l.runs.items;
  low : l.cut.y ≤ l.row;
  adds : AddsOnly (IsOf l.coverer.key l.coverer.encoder (triangle_seen l.setup.a l.setup.b l.setup.c) (rect_seen l.cut) l.width l.height) l.fn.runs.items l.runs.items;
  has : HasRowsBefore l.runs.items l.coverer.key l.coverer.encoder (triangle_seen l.setup.a l.setup.b l.setup.c) (rect_seen l.cut) l.width l.height l.row;
}

abbrev pub decreases-loop-row : goal.decreases-loop-row
decreases-loop-row l = l.end - l.row
