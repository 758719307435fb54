use Rattle.std.proofs.Common.{◌≡◌, Option, List, ap, sym, refl, ◌∙◌}
use Rattle.std.specs.Prelude.{option_map}
use Rattle.scene_model.specs.Journal.{Journal}
use Rattle.scene_model.specs.Scene.{Scene}
use Rattle.scene_text.specs.Seen.{journal_seen, scene_seen}
use Rattle.scene_playing.specs.Order.{order_seen}
use Rattle.trace_laws.specs.Doers.{Doer}
use Rattle.trace_lines.specs.Steps.{step_lines}
use Rattle.item_lines.specs.Items.{item_lines}
use Rattle.scene_tracing.specs.Asked.{journal_asked}
use Rattle.scene_tracing.specs.Steps.{scene_doers, scene_steps_text}
use Rattle.gfx_trace.specs.Asked.{Asked, scene_by, asked_of}
use Rattle.gfx_trace.specs.Ended.{asked_notes, asked_status, asked_text, notes_of, text_of}
use Rattle.gfx_trace.specs.declared.status.TraceStatus.TheVariants as status
use Rattle.gfx_trace.specs.Jobs as jobs
use Rattle.gfx_trace.proofs.Ends.{refused_answered, steps_answered, no_steps, are_there}
use Rattle.gfx_trace.proofs.steps.do_steps.Goals as goal

pub returns-then-not-has_frame-clause-answered : goal.returns-then-not-has_frame-clause-answered
returns-then-not-has_frame-clause-answered g c =
    let job = jobs.steps_job c.args.frame in
    let is : asked_status job (asked_of c.args.bytes.now) ≡ status.NoFrame =
    ap (asked_status job) c.requires.found ∙ no_steps (scene_seen c.args.asked.now.scene) (journal_asked (scene_seen c.args.asked.now.scene) (option_map journal_seen c.args.asked.now.journal)) c.args.frame (sym c.has_frame.ensures ∙ c.if-not-has_frame.true) in
    refused_answered status.NoFrame c.refuse_frame.result job c.args.bytes.now _ _ _ tt is refl refl c.refuse_frame.ensures.refused

pub returns-clause-answered : goal.returns-clause-answered
returns-clause-answered g c =
    let job = jobs.steps_job c.args.frame in
    let s : Scene = scene_seen c.args.asked.now.scene in
    let order : Option Journal = order_seen c.order_of.result in
    let found : asked_of c.args.bytes.now ≡ scene_by s (journal_asked s order) = c.requires.found ∙ ap (λ (o : Option Journal). scene_by s (journal_asked s o)) (sym c.order_of.ensures) in
    let is : asked_status job (asked_of c.args.bytes.now) ≡ status.Done =
    ap (asked_status job) c.requires.found ∙ are_there s (journal_asked (scene_seen c.args.asked.now.scene) (option_map journal_seen c.args.asked.now.journal)) c.args.frame (sym c.has_frame.ensures ∙ c.if-not-has_frame.false) in
    steps_answered c.args.frame c.args.bytes.now (scene_steps_text s (journal_asked s order) c.args.frame) _ _ c.put_scene_steps-stepped.result.end _ _ is
    (ap (asked_text job c.args.bytes.now) found)
    (λ none. ap (asked_notes job c.args.bytes.now) found ∙ ap (λ (ds : List Doer). step_lines (item_lines c.args.bytes.now s c.args.frame) 1 ds) (sym (c.put_scene_steps-stepped.ensures.doers none)))
    c.put_scene_steps-stepped.ensures.put c.end_steps-status.result c.end_steps-status.ensures.ended
