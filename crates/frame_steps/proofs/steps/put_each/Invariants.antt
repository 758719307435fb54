use Rattle.std.proofs.Common.{◌≡◌, ◌≤◌, drop}
use Rattle.render_stores.specs.Seen.{stores_seen}
use Rattle.frame_steps.specs.Steps.{deeds_of_doers, texts_after, IsPutSoFar}
use Rattle.frame_steps.proofs.steps.put_each.Given as goal

abbrev pub invariant-loop-doer : goal.invariant-loop-doer
invariant-loop-doer g l = record {
  put : IsPutSoFar (g.P.Sink.held l.fn.sink) (texts_after (stores_seen l.stores) (deeds_of_doers l.frame (drop l.doer-index l.doers))) (texts_after (stores_seen l.fn.stores) (deeds_of_doers l.frame l.doers)) (g.P.Sink.held l.sink);
  sure : g.P.Sink.sure l.sink ≡ g.P.Sink.sure l.fn.sink;
  faults : g.P.Sink.faults l.fn.sink ≤ g.P.Sink.faults l.sink;
}
