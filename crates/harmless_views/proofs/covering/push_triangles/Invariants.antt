use Rattle.std.proofs.Common.{take}
use Rattle.fix_math.specs.Seen.{rect_seen}
use Rattle.covered_rows.specs.Covering.{AddsOnly, Keeps}
use Rattle.harmless_views.specs.Runs.{HasTriangles, IsTriangleRun}
use Rattle.harmless_views.proofs.covering.push_triangles.Given as goal

-- the triangles so far have their runs, and no other
abbrev pub invariant-loop-setup : goal.invariant-loop-setup
invariant-loop-setup l = record {
  keeps : Keeps l.fn.runs.items l.runs.items;
  has : HasTriangles l.runs.items l.coverer.key l.coverer.encoder (take l.setup-index l.triangles) (rect_seen l.cut) l.width l.height;
  adds : AddsOnly (IsTriangleRun l.coverer.key l.coverer.encoder (take l.setup-index l.triangles) (rect_seen l.cut) l.width l.height) l.fn.runs.items l.runs.items;
}
