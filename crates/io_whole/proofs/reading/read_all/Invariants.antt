use Rattle.std.proofs.Common.{◌≡◌, ◌≤◌, ◌-◌, vec_len}
use Rattle.io_edge.specs.Edge.{with_front}
use Rattle.io_whole.proofs.reading.read_all.Given as goal

abbrev pub invariant-loop-all : goal.invariant-loop-all
invariant-loop-all g l = record {
  few : vec_len l.all ≤ l.limit;
  left : g.S.Source.left l.fn.source ≡ with_front l.all.items (g.S.Source.left l.source);
  faults : g.S.Source.faults l.fn.source ≤ g.S.Source.faults l.source;
}

abbrev pub decreases-loop-all : goal.decreases-loop-all
decreases-loop-all g l = l.limit - vec_len l.all
