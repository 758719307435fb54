use Rattle.std.proofs.Common.{refl, sym, ◌∙◌}
use Rattle.std.proofs.Math.Logic.{∥∥₁_map}
use Rattle.scene_tracing.proofs.Blamers.{alone-blames, taken-with}
use Rattle.scene_tracing.proofs.blamer.Blamer.take.Goals as goal

pub returns-in-Some-clause-blames : goal.returns-in-Some-clause-blames
returns-in-Some-clause-blames c = λ frames s. c.take_with.ensures.blames frames (∥∥₁_map s (λ k. taken-with c.args.self.now _ c.in-Some.renderer frames refl refl refl (sym c.take.ensures.value ∙ c.in-Some.is) k))

pub returns-in-None-clause-blames : goal.returns-in-None-clause-blames
returns-in-None-clause-blames c = λ frames s. ∥∥₁_map s (λ k. alone-blames c.args.self.now _ frames c.args.frame refl refl c.take.ensures.after k)
