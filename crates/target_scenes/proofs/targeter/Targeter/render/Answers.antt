use Rattle.std.proofs.Common.{◌-◌, refl, arith}
use Rattle.std.proofs.Math.Logic.{∥∥₁_map}
use Rattle.scene_tracing.proofs.Frames.{before-more}
use Rattle.target_scenes.proofs.Targeters.{render-finds, gone-finds}
use Rattle.target_scenes.proofs.targeter.Targeter.render.Goals as goal

pub returns-then-is_rendered-clause-finds : goal.returns-then-is_rendered-clause-finds
returns-then-is_rendered-clause-finds c = λ frames s.
    ∥∥₁_map s (λ k.
    render-finds c.args.self.now _ frames c.args.frame refl c.requires.none
    (before-more c.args.self.now.asked.width c.args.self.now.asked.height c.args.self.now.asked.frame c.args.self.now.left (c.args.self.now.left - 1) _ _ frames c.args.frame (omega (arith, c.requires.some))
    (c.render_one-frame.ensures.stores c.if-is_rendered.true) (k.before c.requires.none)))

pub returns-else-is_rendered-clause-finds : goal.returns-else-is_rendered-clause-finds
returns-else-is_rendered-clause-finds c = λ frames s. ∥∥₁_map s (λ k. gone-finds c.args.self.now frames c.args.frame c.requires.none c.requires.taken)
