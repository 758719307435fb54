use Rattle.std.proofs.Common.{sym, ◌∙◌}
use Rattle.std.proofs.Math.Logic.{∥∥₁_map}
use Rattle.target_scenes.proofs.Targeters.{alone-with, no-found}
use Rattle.target_scenes.proofs.targeter.Targeter.take_with.Goals as goal

pub returns-then-is_some-clause-finds : goal.returns-then-is_some-clause-finds
returns-then-is_some-clause-finds c = λ frames s. ∥∥₁_map s (λ k. alone-with c.args.self.now c.args.renderer frames c.args.frame c.requires.taken k)

pub render-requires-clause-none : goal.render-requires-clause-none
render-requires-clause-none c = no-found c.args.self.now.found (sym c.is_some.ensures ∙ c.if-is_some.false)

pub trace-requires-clause-none : goal.trace-requires-clause-none
trace-requires-clause-none c = no-found c.args.self.now.found (sym c.is_some.ensures ∙ c.if-is_some.false)

pub returns-then-self-gt0-clause-finds : goal.returns-then-self-gt0-clause-finds
returns-then-self-gt0-clause-finds c = λ frames s. c.render.ensures.finds frames s

pub returns-clause-finds : goal.returns-clause-finds
returns-clause-finds c = λ frames s. c.trace.ensures.finds frames s
