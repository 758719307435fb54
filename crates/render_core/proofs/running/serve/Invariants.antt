use Rattle.std.specs.Prelude.{◌≡◌}
use Rattle.frame_swap.specs.Ends.{render_knows}
use Rattle.render_core.specs.Rendered.{seen_by}
use Rattle.render_core.specs.Run.{IsRun}
use Rattle.render_core.proofs.running.serve.Given as goal

abbrev pub invariant-loop : goal.invariant-loop
invariant-loop g l = record {
  run : IsRun (seen_by g.P.Sink.held g.P.Sink.tally g.P.Sink.faults g.P.Sink.sure l.initial.renderer) l.initial.end (seen_by g.P.Sink.held g.P.Sink.tally g.P.Sink.faults g.P.Sink.sure l.renderer) l.end;
  stops : (render_knows l.end).stops ≡ (render_knows l.initial.end).stops;
}
