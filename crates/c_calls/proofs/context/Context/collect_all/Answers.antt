use Rattle.std.proofs.Common.{refl, ◌∙◌}
use Rattle.c_calls.specs.Calls.{gathers_none}
use Rattle.c_calls.proofs.On.{gathers_on}
use Rattle.c_calls.proofs.context.Context.collect_all.Goals as goal

pub loop-number-init : goal.loop-number-init
loop-number-init c = (gathers_none, refl)

pub loop-number-preserved : goal.loop-number-preserved
loop-number-preserved c =
    let i = c.loop-number.invariant in
    let e = c.collect_one.ensures in
    (gathers_on i.0 e.gathers, e.same ∙ (λ j. record (i.1 j) { core = c.collect_one.new.self.core }))
