use Rattle.std.proofs.Common.{◌≡◌, ℕ, List, IfOk, refl, ap, subst, ◌∙◌}
use Rattle.scene_model.specs.Scene.{Scene}
use Rattle.scene_text.specs.Seen.{scene_seen, journal_seen}
use Rattle.scene_playing.specs.Order.{order_seen}
use Rattle.frame_blame.specs.Blame.{numbers_text}
use Rattle.scene_tracing.specs.declared.asked.AskedFrame.{AskedFrame}
use Rattle.scene_tracing.proofs.SceneBlame.{blame-asked}
use Rattle.scene_tracing.proofs.scene_blaming.scene_blame.Goals as goal

pub returns-in-Some : goal.returns-in-Some
returns-in-Some c =
    let s : Scene = scene_seen c.args.scene.now in
    let asked : AskedFrame = record { width = c.args.scene.now.width; height = c.args.scene.now.height; frame = c.args.frame } in
    let b = c.in-Some.blamed in
    subst (λ (t : List ℕ). IfOk c.numbers_text.result (λ v. v.items ≡ t))
    (ap (numbers_text b.width b.height) c.as_slice.ensures.value
    ∙ blame-asked c.scene_traced_law.ensures c.gathered_doers_law.ensures c.colors_law.ensures c.blame_law.ensures s (order_seen c.args.order) (journal_seen c.play_here-played.result.journal) _ _ _ _ asked b
    c.requires.readable c.play_here-played.ensures.played.ended c.play_here-played.ensures.follows c.play_here-played.ensures.serial
    (c.play_here-played.ensures.origin ∙ c.in_ok-link.ensures.asked) refl refl c.in-Some.ensures)
    c.numbers_text.ensures
