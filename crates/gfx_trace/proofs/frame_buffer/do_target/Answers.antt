use Rattle.std.proofs.Common.{◌≡◌, refl, ap, sym, ◌∙◌}
use Rattle.std.specs.Prelude.{option_map}
use Rattle.scene_text.specs.Seen.{journal_seen, scene_seen}
use Rattle.scene_tracing.specs.Asked.{journal_asked}
use Rattle.gfx_trace.specs.Asked.{Asked, asked_of}
use Rattle.gfx_trace.specs.Ended.{asked_status}
use Rattle.gfx_trace.specs.Jobs as jobs
use Rattle.gfx_trace.specs.declared.status.TraceStatus.TheVariants as status
use Rattle.gfx_trace.proofs.Ends.{refused_answered, no_target_frame}
use Rattle.gfx_trace.proofs.frame_buffer.do_target.Goals as goal

pub returns-then-not-has_frame-clause-answered : goal.returns-then-not-has_frame-clause-answered
returns-then-not-has_frame-clause-answered g c =
    let job = jobs.target_job c.args.named.place c.args.named.name.now in
    let is : asked_status job (asked_of c.args.bytes.now) ≡ status.NoFrame =
    ap (asked_status job) c.requires.found ∙ no_target_frame (scene_seen c.args.asked.now.scene) (journal_asked (scene_seen c.args.asked.now.scene) (option_map journal_seen c.args.asked.now.journal)) c.args.named.place c.args.named.name.now (sym c.has_frame.ensures ∙ c.if-not-has_frame.true) in
    refused_answered status.NoFrame c.refuse_frame.result job c.args.bytes.now _ _ _ tt is refl refl c.refuse_frame.ensures.refused
