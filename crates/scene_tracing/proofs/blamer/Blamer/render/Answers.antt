use Rattle.std.proofs.Common.{◌-◌, refl, arith}
use Rattle.std.proofs.Math.Logic.{∥∥₁_map}
use Rattle.scene_tracing.proofs.Frames.{before-more}
use Rattle.scene_tracing.proofs.Blamers.{render-blames, gone-blames}
use Rattle.scene_tracing.proofs.blamer.Blamer.render.Goals as goal

pub returns-then-is_rendered-clause-blames : goal.returns-then-is_rendered-clause-blames
returns-then-is_rendered-clause-blames c = λ frames s.
    ∥∥₁_map s (λ k.
    render-blames c.args.self.now _ frames c.args.frame refl c.requires.none
    (before-more c.args.self.now.asked.width c.args.self.now.asked.height c.args.self.now.asked.frame c.args.self.now.left (c.args.self.now.left - 1) _ _ frames c.args.frame (omega (arith, c.requires.some))
    (c.render_one-frame.ensures.stores c.if-is_rendered.true) (k.before c.requires.none)))

pub returns-else-is_rendered-clause-blames : goal.returns-else-is_rendered-clause-blames
returns-else-is_rendered-clause-blames c = λ frames s. ∥∥₁_map s (λ k. gone-blames c.args.self.now frames c.args.frame c.requires.none c.requires.taken)
