use Rattle.std.proofs.Common.{[], ap, sym, subst}
use Rattle.std.specs.Prelude.{option_map, OnOk}
use Rattle.std.specs.List.{cons_option}
use Rattle.std.proofs.lemmas.Result.{on_err_weaker}
use Rattle.view_table.specs.Seen.{view_seen}
use Rattle.pass_bands.specs.Planned.{plan_seen}
use Rattle.view_drawing.specs.Prepared.{DoAllTo}
use Rattle.view_drawing.specs.Entries.{found_seen}
use Rattle.view_drawing.proofs.plan_items.plan_found.Goals as goal

pub returns-in-Some-clause-needs : goal.returns-in-Some-clause-needs
returns-in-Some-clause-needs c =
    on_err_weaker c.plan_item.result (λ draws. (found_seen (c.in-Some.recording, c.in-Some.item), (ap (option_map found_seen) c.in-Some.is, draws))) c.plan_item.ensures.needs

pub returns-in-Some-clause-done : goal.returns-in-Some-clause-done
returns-in-Some-clause-done c =
    let s = c.args.stage.now in
    let t = s.textures.now in
    subst (λ o. OnOk c.plan_item.result (DoAllTo s.width s.height t s.programs.now (view_seen s.view.now) (cons_option o []) c.args.buffers.now (plan_seen t c.args.plan.now) c.plan_item.new.buffers (plan_seen t c.plan_item.new.plan)))
    (sym (ap (option_map found_seen) c.in-Some.is)) c.plan_item.ensures.done
