use Rattle.std.proofs.Common.{refl, ◌∙◌}
use Rattle.scene_model.specs.Scene.{Scene}
use Rattle.scene_text.specs.Seen.{scene_seen, journal_seen}
use Rattle.scene_playing.specs.Order.{order_seen}
use Rattle.target_scenes.specs.declared.asked.AskedTarget.{AskedTarget}
use Rattle.target_scenes.proofs.GivenTargets.{target-asked}
use Rattle.target_scenes.proofs.playing.scene_target.Goals as goal

pub returns-in-Some : goal.returns-in-Some
returns-in-Some c =
    let s : Scene = scene_seen c.args.scene.now in
    let asked : AskedTarget = record { width = c.args.scene.now.width; height = c.args.scene.now.height; frame = c.args.frame; spot = c.args.spot } in
    target-asked c.scene_target_law.ensures c.gathered_doers_law.ensures c.colors_law.ensures s (order_seen c.args.order) (journal_seen c.play_here-played.result.journal) _ _ _ _ asked c.in-Some.found
    c.requires.readable c.play_here-played.ensures.played.ended c.play_here-played.ensures.follows c.play_here-played.ensures.serial
    (c.play_here-played.ensures.origin ∙ c.in_ok-link.ensures.asked) refl refl c.in-Some.ensures
