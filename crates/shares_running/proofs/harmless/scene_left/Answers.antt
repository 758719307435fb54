use Rattle.std.proofs.Common.{◌∙◌, ap, ℕ}
use Rattle.std.proofs.Math.Logic.{∥∥₁_map}
use Rattle.scene_text.specs.Seen.{scene_seen}
use Rattle.shares_running.specs.Listed.{lists_seen}
use Rattle.shares_running.proofs.Judged.{left-given}
use Rattle.shares_running.proofs.harmless.scene_left.Goals as goal

pub returns-in-Some : goal.returns-in-Some
returns-in-Some g c =
    let s = scene_seen c.args.scene.now in
    ∥∥₁_map c.in-Some.ensures (λ judges.
    left-given c.shaped_law.ensures c.colors_law.ensures c.plan_law.ensures.count s (lists_seen c.in-Some.lists.items) _ _ _ _ _ _
    c.requires.readable c.play_frames-played.ensures.played.ended c.if-not-played.false
    (ap (λ (o : ℕ × ℕ). o.0) c.play_frames-played.ensures.origin ∙ c.in_ok-link.ensures.sides.0) (ap (λ (o : ℕ × ℕ). o.1) c.play_frames-played.ensures.origin ∙ c.in_ok-link.ensures.sides.1) judges.1)
