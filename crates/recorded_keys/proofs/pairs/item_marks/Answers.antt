use Rattle.std.proofs.Common.{ap, sym, subst, ◌∙◌, List, [], ◌∷◌, ◌++◌, map}
use Rattle.std.specs.Prelude.{Option}
use Rattle.std.specs.List.{AllByRecursion}
use Rattle.gfx_model.specs.Views.{view_count}
use Rattle.shared_keys.specs.declared.marks.Mark.{Mark}
use Rattle.shared_keys.specs.Marks.{IsThere}
use Rattle.draw_encoder.specs.declared.items.Item.{Item}
use Rattle.draw_encoder.specs.Seen.{item_seen}
use Rattle.recorded_keys.specs.Pairs.{clash_mark}
use Rattle.recorded_keys.proofs.KeyLaws.{at-index}
use Rattle.recorded_keys.proofs.PairLaws.{mark-is, map-step}
use Rattle.recorded_keys.proofs.pairs.item_marks.Goals as goal

pub loop-item-preserved : goal.loop-item-preserved
loop-item-preserved c = λ all.
    let r = c.args.recording.now in
    let items : List Item = c.as_slice-item-items.result.now in
    let there : IsThere (view_count c.args.views.now) (item_seen r.bytes r.uniforms c.item-item.result) =
    at-index (IsThere (view_count c.args.views.now)) (item_seen r.bytes r.uniforms) items c.loop-item.item-index c.item-item.result c.loop-item-test.true c.item-item.is
    (subst (λ (xs : List Item). AllByRecursion (IsThere (view_count c.args.views.now)) (map (item_seen r.bytes r.uniforms) xs)) (sym c.as_slice-item-items.ensures) all) in
    map-step (clash_mark c.args.views.now r.encoder) (item_seen r.bytes r.uniforms) items c.loop-item.item-index c.item-item.result c.loop-item.marks.items c.push.new.self.items _
    c.loop-item-test.true c.item-item.is (c.loop-item.invariant all)
    (c.in_ok-push.ensures.items ∙ ap (λ (m : Option Mark). c.loop-item.marks.items ++ m ∷ []) (mark-is c.args.views.now r.encoder (item_seen r.bytes r.uniforms c.item-item.result) c.mark.result (c.mark.ensures there)))
