use Rattle.std.proofs.Common.{◌≡◌, List, map, ap, ◌∙◌}
use Rattle.std.specs.Prelude.{◌*◌}
use Rattle.store_laws.specs.ByIndex.{all_commanded}
use Rattle.render_stores.specs.Payloads.{payloads_seen}
use Rattle.render_stores.specs.Seen.{stores_seen}
use Rattle.trace_lines.specs.Seen.{doer_seen}
use Rattle.frame_steps.specs.Steps.{deeds_of_doers}
use Rattle.frame_blame.specs.Done.{history_of_these}
use Rattle.frame_blame.specs.Marks.{marked_by}
use Rattle.frame_blame.specs.declared.marks.Mark.{Mark}
use Rattle.frame_blame.proofs.Items.{changes-in}
use Rattle.frame_blame.proofs.Numbers.{are-numbers}
use Rattle.frame_blame.proofs.blaming.blame.Goals as goal

pub returns : goal.returns
returns g c =
    let a = c.args in
    let h = stores_seen a.stores.now in
    let begun = stores_seen c.execute_all.new.stores in
    let table = c.in_ok-table.table in
    let last = c.paint_each.new.table in
    let start : List Mark = table.marks.items in
    let end : List Mark = last.marks.items in
    let doers = c.as_slice.result.now in
    let wide : last.width ≡ h.back.color.width = c.in_ok-paint_each.ensures.sides.0 ∙ c.in_ok-table.ensures.sides.0 in
    let high : last.height ≡ h.back.color.height = c.in_ok-paint_each.ensures.sides.1 ∙ c.in_ok-table.ensures.sides.1 in
    let change = marked_by (λ x y. history_of_these x y 0 begun (deeds_of_doers a.frame.now doers)) in
    are-numbers a.frame.now doers c.done_law.ensures c.tell_facts.ensures (ap (map doer_seen) c.as_slice.ensures.value ∙ c.in_ok-doers.ensures) h begun start end c.in_ok-numbers.numbers.items (c.in_ok-execute_all.ensures.done ∙ ap (λ p. all_commanded (payloads_seen p) h a.frame.now.pre) c.deref.ensures.value) c.in_ok-table.ensures.marks
    (last.whole ∙ ap (λ k. k * last.height) wide ∙ ap (λ k. h.back.color.width * k) high)
    (changes-in table.width h.back.color.width table.height h.back.color.height change start end c.in_ok-table.ensures.sides.0 c.in_ok-table.ensures.sides.1 c.in_ok-paint_each.ensures.painted)
    (c.in_ok-numbers.ensures.deeds ∙ ap (map (λ (m : Mark). m.deed)) c.as_slice-2.ensures.value) c.in_ok-numbers.ensures.small
