use Rattle.std.proofs.Common.{ap, take, ◌∙◌}
use Rattle.std.specs.Prelude.{option_map}
use Rattle.gfx_model.specs.Frames.{item_of_entry}
use Rattle.view_table.specs.Seen.{view_seen}
use Rattle.frame_record.specs.Seen.{entry_seen, recordings_seen}
use Rattle.pass_bands.specs.Planned.{plan_seen}
use Rattle.view_drawing.specs.Entries.{found_seen, items_of}
use Rattle.view_drawing.proofs.DrawnLaws.{values_done}
use Rattle.view_drawing.proofs.Entries.{items_more}
use Rattle.view_drawing.proofs.Folds.{do_more, on_err_holds}
use Rattle.view_drawing.proofs.Needs.{stops_at_draw}
use Rattle.view_drawing.proofs.plan_items.plan_items.Goals as goal

pub returns-in_err-plan_found-clause-given : goal.returns-in_err-plan_found-clause-given
returns-in_err-plan_found-clause-given c =
    let a = c.args in
    let l = c.loop-one in
    let s = a.stage.now in
    let rs = recordings_seen a.frame.now.recordings.items in
    on_err_holds c.from_residual.result
    (stops_at_draw s.programs.now rs (λ o. entry_seen o.entry) a.items.now l.one-index c.one-item.result (option_map found_seen c.item.result) a.buffers.now l.buffers c.plan_found.new.buffers c.loop-one-test.true
    (c.item.ensures.content ∙ ap (λ o. item_of_entry rs (entry_seen o.entry)) c.one-item.is) c.in_err-plan_found.ensures.needs
    (values_done s.width s.height s.textures.now s.programs.now (view_seen s.view.now) (items_of a.frame.now (take l.one-index a.items.now)) a.buffers.now l.buffers (plan_seen s.textures.now a.plan.now) (plan_seen s.textures.now l.plan) l.invariant)
    c.in_err-plan_found.ensures.given)

pub loop-one-preserved : goal.loop-one-preserved
loop-one-preserved c =
    let a = c.args in
    let l = c.loop-one in
    let s = a.stage.now in
    let rs = recordings_seen a.frame.now.recordings.items in
    let found = option_map found_seen c.item.result in
    do_more s.width s.height s.textures.now s.programs.now (view_seen s.view.now) (items_of a.frame.now (take l.one-index a.items.now)) _ found a.buffers.now l.buffers c.plan_found.new.buffers (plan_seen s.textures.now a.plan.now) (plan_seen s.textures.now l.plan) (plan_seen s.textures.now c.plan_found.new.plan)
    (items_more rs (λ o. entry_seen o.entry) a.items.now l.one-index c.one-item.result c.loop-one-test.true found (c.item.ensures.content ∙ ap (λ o. item_of_entry rs (entry_seen o.entry)) c.one-item.is))
    l.invariant c.in_ok-plan_found.ensures.done
