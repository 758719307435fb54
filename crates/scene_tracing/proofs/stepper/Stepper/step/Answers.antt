use Rattle.std.proofs.Common.{refl, ap, subst}
use Rattle.std.proofs.Math.Logic.{∥∥₁_map}
use Rattle.store_laws.specs.ByIndex.{Stores}
use Rattle.render_stores.specs.Seen.{stores_seen}
use Rattle.scene_tracing.specs.Stepping.{told_by, IsSteppedIn}
use Rattle.scene_tracing.proofs.Steppers.{step-steps}
use Rattle.scene_tracing.proofs.stepper.Stepper.step.Goals as goal

pub returns-clause-steps : goal.returns-clause-steps
returns-clause-steps g c = λ old frames s.
    let told = told_by g.P.Sink.held g.P.Sink.faults g.P.Sink.sure in
    ∥∥₁_map s (λ k.
    step-steps told c.args.self.now _ (stores_seen c.args.renderer.canvas.stores) old frames c.args.frame.now c.step_one-end.result c.requires.here refl refl (k.untouched c.requires.none) (k.before c.requires.none)
    (subst (λ (h : Stores). IsSteppedIn h c.args.frame.now (told c.args.self.now.sink) c.step_one-end.result (told c.step_one-end.new.sink)) (ap stores_seen c.into_stores-stores.ensures) c.step_one-end.ensures))
