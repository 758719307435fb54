use Rattle.std.proofs.Common.{map, take}
use Rattle.pass_bands.specs.Planned.{plan_seen}
use Rattle.view_drawing.specs.Passes.{turn_seen}
use Rattle.view_drawing.proofs.Folds.{on_err_holds}
use Rattle.view_drawing.proofs.PassLaws.{map_more, turns_more, turns_done, stops_at_turn}
use Rattle.view_drawing.proofs.plan_items.plan_turns.Goals as goal

pub returns-in_err-plan_items-clause-given : goal.returns-in_err-plan_items-clause-given
returns-in_err-plan_items-clause-given c =
    let a = c.args in
    let l = c.loop-one in
    let t = a.things.now in
    on_err_holds c.from_residual.result
    (stops_at_turn t.programs.now turn_seen a.views.now l.one-index c.one-item.result a.buffers.now l.buffers c.plan_items.new.buffers c.loop-one-test.true c.one-item.is
    (turns_done t.width t.height t.textures.now t.programs.now (map turn_seen (take l.one-index a.views.now)) a.buffers.now l.buffers (plan_seen t.textures.now a.plan.now) (plan_seen t.textures.now l.plan) l.invariant)
    c.in_err-plan_items.ensures.given)

pub loop-one-preserved : goal.loop-one-preserved
loop-one-preserved c =
    let a = c.args in
    let l = c.loop-one in
    let t = a.things.now in
    turns_more t.width t.height t.textures.now t.programs.now (map turn_seen (take l.one-index a.views.now)) _ (turn_seen c.one-item.result) a.buffers.now l.buffers c.plan_items.new.buffers (plan_seen t.textures.now a.plan.now) (plan_seen t.textures.now l.plan) (plan_seen t.textures.now c.plan_items.new.plan)
    (map_more turn_seen a.views.now l.one-index c.one-item.result c.loop-one-test.true c.one-item.is) l.invariant c.in_ok-plan_items.ensures.done
