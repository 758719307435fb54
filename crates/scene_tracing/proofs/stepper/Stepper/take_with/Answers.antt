use Rattle.std.proofs.Common.{sym, ◌∙◌}
use Rattle.std.proofs.Math.Logic.{∥∥₁_map}
use Rattle.scene_tracing.specs.Stepping.{told_by}
use Rattle.scene_tracing.proofs.Steppers.{alone-with, no-end}
use Rattle.scene_tracing.proofs.stepper.Stepper.take_with.Goals as goal

pub returns-then-is_some-clause-steps : goal.returns-then-is_some-clause-steps
returns-then-is_some-clause-steps g c = λ old frames s. ∥∥₁_map s (λ k. alone-with (told_by g.P.Sink.held g.P.Sink.faults g.P.Sink.sure) c.args.self.now c.args.renderer old frames c.args.frame c.requires.taken k)

pub render-requires-clause-none : goal.render-requires-clause-none
render-requires-clause-none g c = no-end c.args.self.now.end (sym c.is_some.ensures ∙ c.if-is_some.false)

pub step-requires-clause-none : goal.step-requires-clause-none
step-requires-clause-none g c = no-end c.args.self.now.end (sym c.is_some.ensures ∙ c.if-is_some.false)

pub returns-then-self-gt0-clause-steps : goal.returns-then-self-gt0-clause-steps
returns-then-self-gt0-clause-steps g c = λ old frames s. c.render.ensures.steps old frames s

pub returns-clause-steps : goal.returns-clause-steps
returns-clause-steps g c = λ old frames s. c.step.ensures.steps old frames s
