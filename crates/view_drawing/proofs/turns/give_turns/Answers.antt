use Rattle.std.specs.Prelude.{fold}
use Rattle.store_model.specs.Buffers.{Buffers}
use Rattle.store_laws.specs.Listed.{values_after}
use Rattle.pass_laws.specs.Passed.{Turn}
use Rattle.view_drawing.specs.Passes.{turn_seen}
use Rattle.view_drawing.proofs.PassLaws.{step_more}
use Rattle.view_drawing.proofs.turns.give_turns.Goals as goal

pub loop-one-preserved : goal.loop-one-preserved
loop-one-preserved c =
    let l = c.loop-one in
    step_more (λ (b : Buffers) (t : Turn). fold values_after b t.items) turn_seen c.args.buffers.now l.buffers c.give_all.new.buffers c.args.views.now l.one-index c.one-item.result c.loop-one-test.true c.one-item.is l.invariant
    c.give_all.ensures
