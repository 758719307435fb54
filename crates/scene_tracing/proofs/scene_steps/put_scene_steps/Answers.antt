use Rattle.std.proofs.Common.{refl, ap, ◌∙◌}
use Rattle.scene_model.specs.Scene.{Scene}
use Rattle.scene_text.specs.Seen.{scene_seen, journal_seen}
use Rattle.scene_playing.specs.Order.{order_seen}
use Rattle.scene_tracing.specs.declared.asked.AskedFrame.{AskedFrame}
use Rattle.scene_tracing.specs.Asked.{journal_asked}
use Rattle.scene_tracing.specs.Stepping.{told_by}
use Rattle.scene_tracing.proofs.SceneSteps.{steps-asked, text-put, doers-are, put-nothing}
use Rattle.scene_tracing.proofs.scene_steps.put_scene_steps.Goals as goal

pub returns-in-Ok-clause-put : goal.returns-in-Ok-clause-put
returns-in-Ok-clause-put g c =
    let s : Scene = scene_seen c.args.scene.now in
    let told = told_by g.P.Sink.held g.P.Sink.faults g.P.Sink.sure in
    let asked : AskedFrame = record { width = c.args.scene.now.width; height = c.args.scene.now.height; frame = c.args.frame } in
    let origin = c.play_here-played.ensures.origin in
    let stepped =
    steps-asked c.scene_traced_law.ensures c.gathered_doers_law.ensures c.colors_law.ensures s (order_seen c.args.order) (journal_seen c.play_here-played.result.journal) _ _ _ _ asked (told c.play_here-played.result.link.opening.value) (told c.args.sink)
    c.into_stepped.result.end (told c.into_stepped.result.sink) c.requires.readable c.play_here-played.ensures.played.ended c.play_here-played.ensures.follows c.play_here-played.ensures.serial
    (ap (λ (o : AskedFrame × g.row.P.Denot). o.0) origin ∙ c.in-Ok.ensures.origin.0) refl refl (ap told (ap (λ (o : AskedFrame × g.row.P.Denot). o.1) origin ∙ c.in-Ok.ensures.origin.1)) c.into_stepped.ensures in
    text-put s (journal_asked s (order_seen c.args.order)) c.args.frame (told c.args.sink) c.into_stepped.result.end (told c.into_stepped.result.sink) stepped

pub returns-in-Ok-clause-doers : goal.returns-in-Ok-clause-doers
returns-in-Ok-clause-doers g c =
    let s : Scene = scene_seen c.args.scene.now in
    let told = told_by g.P.Sink.held g.P.Sink.faults g.P.Sink.sure in
    let asked : AskedFrame = record { width = c.args.scene.now.width; height = c.args.scene.now.height; frame = c.args.frame } in
    let origin = c.play_here-played.ensures.origin in
    let stepped =
    steps-asked c.scene_traced_law.ensures c.gathered_doers_law.ensures c.colors_law.ensures s (order_seen c.args.order) (journal_seen c.play_here-played.result.journal) _ _ _ _ asked (told c.play_here-played.result.link.opening.value) (told c.args.sink)
    c.into_stepped.result.end (told c.into_stepped.result.sink) c.requires.readable c.play_here-played.ensures.played.ended c.play_here-played.ensures.follows c.play_here-played.ensures.serial
    (ap (λ (o : AskedFrame × g.row.P.Denot). o.0) origin ∙ c.in-Ok.ensures.origin.0) refl refl (ap told (ap (λ (o : AskedFrame × g.row.P.Denot). o.1) origin ∙ c.in-Ok.ensures.origin.1)) c.into_stepped.ensures in
    doers-are s (journal_asked s (order_seen c.args.order)) c.args.frame (told c.args.sink) c.into_stepped.result.end (told c.into_stepped.result.sink) stepped

pub returns-in-Err-clause-put : goal.returns-in-Err-clause-put
returns-in-Err-clause-put g c = put-nothing _ _ _ _ refl (ap (told_by g.P.Sink.held g.P.Sink.faults g.P.Sink.sure) c.in-Err.ensures.comes_back)
