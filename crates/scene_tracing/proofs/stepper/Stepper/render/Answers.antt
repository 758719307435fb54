use Rattle.std.proofs.Common.{◌-◌, refl, arith}
use Rattle.std.proofs.Math.Logic.{∥∥₁_map}
use Rattle.scene_tracing.specs.Stepping.{told_by}
use Rattle.scene_tracing.proofs.Frames.{before-more}
use Rattle.scene_tracing.proofs.Steppers.{render-steps, gone-steps}
use Rattle.scene_tracing.proofs.stepper.Stepper.render.Goals as goal

pub returns-then-is_rendered-clause-steps : goal.returns-then-is_rendered-clause-steps
returns-then-is_rendered-clause-steps g c = λ old frames s.
    ∥∥₁_map s (λ k.
    render-steps (told_by g.P.Sink.held g.P.Sink.faults g.P.Sink.sure) c.args.self.now _ old frames c.args.frame refl (k.untouched c.requires.none) c.requires.none
    (before-more c.args.self.now.asked.width c.args.self.now.asked.height c.args.self.now.asked.frame c.args.self.now.left (c.args.self.now.left - 1) _ _ frames c.args.frame (omega (arith, c.requires.some))
    (c.render_one-frame.ensures.stores c.if-is_rendered.true) (k.before c.requires.none)))

pub returns-else-is_rendered-clause-steps : goal.returns-else-is_rendered-clause-steps
returns-else-is_rendered-clause-steps g c = λ old frames s.
    ∥∥₁_map s (λ k. gone-steps (told_by g.P.Sink.held g.P.Sink.faults g.P.Sink.sure) c.args.self.now old frames c.args.frame (k.untouched c.requires.none) c.requires.none c.requires.taken)
