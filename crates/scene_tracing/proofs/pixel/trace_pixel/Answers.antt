use Rattle.std.proofs.Common.{refl, ◌∙◌}
use Rattle.scene_model.specs.Scene.{Scene}
use Rattle.scene_text.specs.Seen.{scene_seen, journal_seen}
use Rattle.scene_playing.specs.Order.{order_seen}
use Rattle.scene_tracing.specs.declared.asked.Asked.{Asked}
use Rattle.scene_tracing.specs.Asked.{journal_asked}
use Rattle.scene_tracing.proofs.Scenes.{history-asked, ends-in-picture}
use Rattle.scene_tracing.proofs.pixel.trace_pixel.Goals as goal

pub returns-in-Some-clause-history : goal.returns-in-Some-clause-history
returns-in-Some-clause-history c =
    let s : Scene = scene_seen c.args.scene.now in
    let asked : Asked = record { width = c.args.scene.now.width; height = c.args.scene.now.height; spot = c.args.spot } in
    history-asked c.scene_traced_law.ensures c.gathered_doers_law.ensures c.colors_law.ensures c.lawful_law.ensures.count c.plan_law.ensures.count s (order_seen c.args.order) (journal_seen c.play_here-played.result.journal) _ _ _ _ asked c.in-Some.history
    c.requires.readable c.requires.lawful c.play_here-played.ensures.played.ended c.if-not-played.false c.play_here-played.ensures.follows c.play_here-played.ensures.serial
    (c.play_here-played.ensures.origin ∙ c.in_ok-link.ensures.asked) refl refl c.in-Some.ensures

pub returns-in-Some-clause-color : goal.returns-in-Some-clause-color
returns-in-Some-clause-color c =
    let s : Scene = scene_seen c.args.scene.now in
    let asked : Asked = record { width = c.args.scene.now.width; height = c.args.scene.now.height; spot = c.args.spot } in
    ends-in-picture c.scene_pixel_law.ensures s (journal_asked s (order_seen c.args.order)) c.args.spot.frame c.args.spot.x c.args.spot.y c.in-Some.history c.requires.column c.requires.row
    (history-asked c.scene_traced_law.ensures c.gathered_doers_law.ensures c.colors_law.ensures c.lawful_law.ensures.count c.plan_law.ensures.count s (order_seen c.args.order) (journal_seen c.play_here-played.result.journal) _ _ _ _ asked c.in-Some.history
    c.requires.readable c.requires.lawful c.play_here-played.ensures.played.ended c.if-not-played.false c.play_here-played.ensures.follows c.play_here-played.ensures.serial
    (c.play_here-played.ensures.origin ∙ c.in_ok-link.ensures.asked) refl refl c.in-Some.ensures)
