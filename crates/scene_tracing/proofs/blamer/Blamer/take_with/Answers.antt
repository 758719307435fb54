use Rattle.std.proofs.Common.{sym, ◌∙◌}
use Rattle.std.proofs.Math.Logic.{∥∥₁_map}
use Rattle.scene_tracing.proofs.Blamers.{alone-with, no-blame}
use Rattle.scene_tracing.proofs.blamer.Blamer.take_with.Goals as goal

pub returns-then-is_some-clause-blames : goal.returns-then-is_some-clause-blames
returns-then-is_some-clause-blames c = λ frames s. ∥∥₁_map s (λ k. alone-with c.args.self.now c.args.renderer frames c.args.frame c.requires.taken k)

pub render-requires-clause-none : goal.render-requires-clause-none
render-requires-clause-none c = no-blame c.args.self.now.blamed (sym c.is_some.ensures ∙ c.if-is_some.false)

pub blame-requires-clause-none : goal.blame-requires-clause-none
blame-requires-clause-none c = no-blame c.args.self.now.blamed (sym c.is_some.ensures ∙ c.if-is_some.false)

pub returns-then-self-gt0-clause-blames : goal.returns-then-self-gt0-clause-blames
returns-then-self-gt0-clause-blames c = λ frames s. c.render.ensures.blames frames s

pub returns-clause-blames : goal.returns-clause-blames
returns-clause-blames c = λ frames s. c.blame.ensures.blames frames s
