use Rattle.std.proofs.Math.Logic.{∥∥₁_map}
use Rattle.scene_tracing.specs.Stepping.{told_by}
use Rattle.scene_tracing.proofs.Steppers.{ends-so}
use Rattle.scene_tracing.proofs.stepper.Stepper.into_stepped.Goals as goal

pub returns : goal.returns
returns g c = λ old frames s. ∥∥₁_map s (λ k. ends-so (told_by g.P.Sink.held g.P.Sink.faults g.P.Sink.sure) c.args.self old frames c.end_of.result c.end_of.ensures.given c.end_of.ensures.none k)
