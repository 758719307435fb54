use Rattle.std.proofs.Common.{ap, sym, subst, ◌∙◌, List, ◌++◌, map}
use Rattle.std.specs.List.{AllByRecursion}
use Rattle.gfx_model.specs.Views.{view_count}
use Rattle.shared_keys.specs.declared.marks.Mark.{Mark}
use Rattle.shared_keys.specs.Marks.{IsThere}
use Rattle.draw_encoder.specs.declared.items.Item.{Item}
use Rattle.draw_encoder.specs.Seen.{item_seen}
use Rattle.recorded_keys.specs.Recorded.{marks_of_item}
use Rattle.recorded_keys.proofs.KeyLaws.{item-step, at-index}
use Rattle.recorded_keys.proofs.marking.put_marks.Goals as goal

pub loop-item-preserved : goal.loop-item-preserved
loop-item-preserved c = λ all.
    let r = c.args.recording.now in
    let items : List Item = c.as_slice-item-items.result.now in
    let there : IsThere (view_count c.args.views.now) (item_seen r.bytes r.uniforms c.item-item.result) =
    at-index (IsThere (view_count c.args.views.now)) (item_seen r.bytes r.uniforms) items c.loop-item.item-index c.item-item.result c.loop-item-test.true c.item-item.is
    (subst (λ (xs : List Item). AllByRecursion (IsThere (view_count c.args.views.now)) (map (item_seen r.bytes r.uniforms) xs)) (sym c.as_slice-item-items.ensures) all) in
    item-step (marks_of_item c.args.views.now r.encoder) (item_seen r.bytes r.uniforms) items c.loop-item.item-index c.item-item.result c.loop-item.marks.items c.put_mark.new.marks.items _
    c.loop-item-test.true c.item-item.is (c.loop-item.invariant all) (c.in_ok-put_mark.ensures ∙ ap (λ (ms : List Mark). c.loop-item.marks.items ++ ms) (c.mark.ensures there))
