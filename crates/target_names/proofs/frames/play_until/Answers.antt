use Rattle.std.proofs.Common.{◌≡◌, ℕ, subst, arith}
use Rattle.scene_text.specs.Seen.{scene_seen}
use Rattle.scene_check.specs.Scenes.{IsReached}
use Rattle.target_names.proofs.frames.play_until.Goals as goal

pub returns : goal.returns
returns c =
    let last = c.loop-number-test.false in
    let same : c.loop-number.number ≡ c.args.frame = omega (arith, last) in
    subst (λ (n : ℕ). IsReached (scene_seen c.args.scene.now) n c.loop-number.book c.loop-number.handles.items) same c.loop-number.invariant
