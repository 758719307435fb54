use Rattle.std.proofs.Common.{ap, sym, subst, List, ℕ, Option, ◌∙◌}
use Rattle.io_edge.specs.Edge.{Rose}
use Rattle.scene_model.specs.Grammar.{whole_language, scene_of}
use Rattle.scene_text.specs.Seen.{scene_seen}
use Rattle.dropped_lines.specs.Dropped.{dropped_text}
use Rattle.fault_fields.specs.Fields.{fault_field}
use Rattle.check_running.specs.Refusals.{refusal_line}
use Rattle.check_running.specs.Putting.{IsPut, IsTold}
use Rattle.check_running.specs.declared.status.CheckStatus.TheVariants as status
use Rattle.check_running.proofs.Ends.{put_ended, refused_ended}
use Rattle.check_running.proofs.checking.run.Goals as goal

pub returns-in-Ok-read-clause-ended : goal.returns-in-Ok-read-clause-ended
returns-in-Ok-read-clause-ended g c =
    let s = scene_seen c.in-Ok-read.scene in
    put_ended c.put_scene.result c.in-Ok.bytes.items s _ _ _ _ _ _ _ _
    (record {
      read = record { given = c.in-Ok.ensures.bytes; ended = c.in-Ok.ensures.ended; few = c.in-Ok.ensures.few };
      is = ap (scene_of whole_language) (sym c.deref.ensures.value) ∙ c.in-Ok-read.ensures.exact;
    })
    (subst (λ (bs : List ℕ). IsPut c.put_scene.result (dropped_text bs s) (g.N.Sink.held c.args.lines.now) (g.N.Sink.held c.put_scene.new.lines) (Rose (g.N.Sink.faults c.args.lines.now) (g.N.Sink.faults c.put_scene.new.lines)))
    c.deref-in-Ok-read.ensures.value c.put_scene.ensures.put)

pub returns-in-Err-At-clause-ended : goal.returns-in-Err-At-clause-ended
returns-in-Err-At-clause-ended g c =
    refused_ended c.tell_scene.result c.in-Ok.bytes.items c.in-Err-At.line c.in-Err-At.cause _ _ _ _ _ _ _ _
    (record {
      read = record { given = c.in-Ok.ensures.bytes; ended = c.in-Ok.ensures.ended; few = c.in-Ok.ensures.few };
      is = ap (scene_of whole_language) (sym c.deref.ensures.value) ∙ (rw c.in-Err-At.field-0-is at c.in-Err-At.ensures.exact);
    })
    (subst (λ (k : Option ℕ). IsTold c.tell_scene.result (status.Scene c.in-Err-At.line c.in-Err-At.cause) (refusal_line c.in-Err-At.line c.in-Err-At.cause k) (g.E.Sink.held c.args.notes.now) (g.E.Sink.held c.tell_scene.new.notes) (Rose (g.E.Sink.faults c.args.notes.now) (g.E.Sink.faults c.tell_scene.new.notes)))
    (c.fault_field-field.ensures.exact ∙ ap (λ bs. fault_field bs c.in-Err-At.line c.in-Err-At.cause) c.deref-in-Err-At.ensures.value) c.tell_scene.ensures.told)
