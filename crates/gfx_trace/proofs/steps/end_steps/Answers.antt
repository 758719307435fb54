use Rattle.std.proofs.Common.{List, map, subst}
use Rattle.scene_text.specs.Seen.{scene_seen}
use Rattle.trace_lines.specs.declared.doers.Doer.{Doer}
use Rattle.trace_lines.specs.Seen.{doer_seen}
use Rattle.trace_lines.specs.Steps.{step_lines}
use Rattle.item_lines.specs.Items.{item_lines}
use Rattle.io_whole.specs.Runs.{putting}
use Rattle.gfx_trace.specs.Ended.{IsNoted}
use Rattle.gfx_trace.proofs.Ends.{noted_ended}
use Rattle.gfx_trace.proofs.steps.end_steps.Goals as goal

pub returns-in-None-clause-ended : goal.returns-in-None-clause-ended
returns-in-None-clause-ended g c =
    let numbers = item_lines c.args.bytes.now (scene_seen c.args.scene.now) c.args.frame in
    let notes = putting (g.N.Sink.held c.args.notes.now) (g.N.Sink.held c.note_steps.new.notes) (g.N.Sink.faults c.args.notes.now) (g.N.Sink.faults c.note_steps.new.notes) in
    noted_ended c.note_steps.result c.args.end.now (step_lines numbers 1 (map doer_seen c.args.end.now.doers.items)) notes c.in-None.is
    (subst (λ (ds : List Doer). IsNoted c.note_steps.result (step_lines numbers 1 (map doer_seen ds)) notes) c.deref.ensures.value c.note_steps.ensures.noted)
