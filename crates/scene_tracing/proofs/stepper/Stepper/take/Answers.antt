use Rattle.std.proofs.Common.{refl, sym, ◌∙◌}
use Rattle.std.proofs.Math.Logic.{∥∥₁_map}
use Rattle.scene_tracing.specs.Stepping.{told_by}
use Rattle.scene_tracing.proofs.Steppers.{alone-steps, taken-with}
use Rattle.scene_tracing.proofs.stepper.Stepper.take.Goals as goal

pub returns-in-Some-clause-steps : goal.returns-in-Some-clause-steps
returns-in-Some-clause-steps g c = λ old frames s.
    c.take_with.ensures.steps old frames (∥∥₁_map s (λ k. taken-with (told_by g.P.Sink.held g.P.Sink.faults g.P.Sink.sure) c.args.self.now _ c.in-Some.renderer old frames refl refl refl refl (sym c.take.ensures.value ∙ c.in-Some.is) k))

pub returns-in-None-clause-steps : goal.returns-in-None-clause-steps
returns-in-None-clause-steps g c = λ old frames s. ∥∥₁_map s (λ k. alone-steps (told_by g.P.Sink.held g.P.Sink.faults g.P.Sink.sure) c.args.self.now _ old frames c.args.frame refl refl refl c.take.ensures.after k)
