use Rattle.std.proofs.Common.{refl, sym, ◌∙◌}
use Rattle.std.proofs.Math.Logic.{∥∥₁_map}
use Rattle.target_scenes.proofs.Targeters.{alone-finds, taken-with}
use Rattle.target_scenes.proofs.targeter.Targeter.take.Goals as goal

pub returns-in-Some-clause-finds : goal.returns-in-Some-clause-finds
returns-in-Some-clause-finds c = λ frames s. c.take_with.ensures.finds frames (∥∥₁_map s (λ k. taken-with c.args.self.now _ c.in-Some.renderer frames refl refl refl (sym c.take.ensures.value ∙ c.in-Some.is) k))

pub returns-in-None-clause-finds : goal.returns-in-None-clause-finds
returns-in-None-clause-finds c = λ frames s. ∥∥₁_map s (λ k. alone-finds c.args.self.now _ frames c.args.frame refl refl c.take.ensures.after k)
