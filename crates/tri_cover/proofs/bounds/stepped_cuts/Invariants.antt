use Rattle.tri_cover.specs.Bounded.{AreMoved, HoldsCuts}
use Rattle.tri_cover.proofs.bounds.stepped_cuts.Given as goal

-- the rows before are there, and the bounds stand at the row
abbrev pub invariant-loop-k : goal.invariant-loop-k
invariant-loop-k l = record {
  moved : AreMoved l.here l.fn.bounds l.k;
  held : HoldsCuts l.spans l.fn.bounds l.fn.first l.fn.after l.k;
}
