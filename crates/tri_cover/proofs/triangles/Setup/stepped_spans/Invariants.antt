use Rattle.std.proofs.Common.{◌+◌}
use Rattle.tri_cover.specs.Seen.{triangle_seen}
use Rattle.tri_cover.specs.Walked.{AreSides}
use Rattle.tri_cover.specs.Bounded.{HoldsSpans}
use Rattle.tri_cover.proofs.triangles.Setup.stepped_spans.Given as goal

-- the rows before are there, and the sides stand at the row
abbrev pub invariant-loop-k : goal.invariant-loop-k
invariant-loop-k l = record {
  sides : AreSides l.sides l.fn.self (l.fn.row + l.k);
  held : HoldsSpans l.spans (triangle_seen l.fn.self.a l.fn.self.b l.fn.self.c) l.fn.first l.fn.after l.fn.row l.k;
}
