use Rattle.std.proofs.Common.{◌≡◌, ◌≤◌, ◌-◌, ◌<◌, length, take}
use Rattle.io_edge.specs.Edge.{with_back, counted}
use Rattle.io_whole.proofs.putting.put_all.Given as goal

abbrev pub invariant-loop-at : goal.invariant-loop-at
invariant-loop-at g l = record {
  within : l.at ≤ length l.text;
  sure : g.P.Sink.sure l.sink ≡ g.P.Sink.sure l.fn.sink;
  held : g.P.Sink.held l.sink ≡ with_back (g.P.Sink.held l.fn.sink) (take l.at l.text);
  none : l.at ≡ 0 → g.P.Sink.tally l.sink ≡ g.P.Sink.tally l.fn.sink;
  some : 0 < l.at → g.P.Sink.tally l.sink ≡ counted (g.P.Sink.tally l.fn.sink) (take l.at l.text);
  faults : g.P.Sink.faults l.fn.sink ≤ g.P.Sink.faults l.sink;
}

abbrev pub decreases-loop-at : goal.decreases-loop-at
decreases-loop-at g l = length l.text - l.at
