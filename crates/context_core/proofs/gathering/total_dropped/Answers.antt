use Rattle.std.proofs.Common.{rules, ap, ◌∙◌, sym, ◌+◌}
use Rattle.context_core.proofs.Gathers.{dropped_more}
use Rattle.context_core.proofs.gathering.total_dropped.Goals as goal

pub loop-recording-preserved : goal.loop-recording-preserved
loop-recording-preserved c = record {
  most = search rules;
  total = ap (λ n. n + c.recording-item.result.dropped) c.loop-recording.invariant.total ∙ sym (dropped_more c.args.recordings.now c.loop-recording.recording-index c.recording-item.result c.loop-recording-test.true c.recording-item.is);
}
