use Rattle.std.proofs.Common.{◌≡◌, refl, ap, sym, ◌∙◌}
use Rattle.std.specs.Prelude.{option_map}
use Rattle.scene_model.specs.Scene.{Scene}
use Rattle.scene_text.specs.Seen.{journal_seen, scene_seen}
use Rattle.scene_tracing.specs.Asked.{journal_asked}
use Rattle.gfx_trace.specs.Asked.{Asked, asked_of}
use Rattle.gfx_trace.specs.Ended.{asked_status, asked_text}
use Rattle.gfx_trace.specs.declared.status.TraceStatus.TheVariants as status
use Rattle.gfx_trace.specs.Jobs as jobs
use Rattle.gfx_trace.proofs.Ends.{refused_answered, blame_answered, no_blame, is_blamed}
use Rattle.gfx_trace.proofs.blame.do_blame.Goals as goal

pub returns-then-not-has_frame-clause-answered : goal.returns-then-not-has_frame-clause-answered
returns-then-not-has_frame-clause-answered g c = λ bytes found.
    let job = jobs.blame_job c.args.frame in
    let is : asked_status job (asked_of bytes) ≡ status.NoFrame =
    ap (asked_status job) found ∙ no_blame (scene_seen c.args.asked.now.scene) (journal_asked (scene_seen c.args.asked.now.scene) (option_map journal_seen c.args.asked.now.journal)) c.args.frame (sym c.has_frame.ensures ∙ c.if-not-has_frame.true) in
    refused_answered status.NoFrame c.refuse_frame.result job bytes _ _ _ tt is refl refl c.refuse_frame.ensures.refused

pub returns-clause-answered : goal.returns-clause-answered
returns-clause-answered g c = λ bytes found.
    let job = jobs.blame_job c.args.frame in
    let is : asked_status job (asked_of bytes) ≡ status.Done =
    ap (asked_status job) found ∙ is_blamed (scene_seen c.args.asked.now.scene) (journal_asked (scene_seen c.args.asked.now.scene) (option_map journal_seen c.args.asked.now.journal)) c.args.frame (sym c.has_frame.ensures ∙ c.if-not-has_frame.false) in
    blame_answered c.put_blame.result c.args.frame bytes _ _ _ is (ap (asked_text job bytes) found) c.put_blame.ensures.put refl
