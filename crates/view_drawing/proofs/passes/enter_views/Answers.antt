use Rattle.std.proofs.Common.{◌≡◌, ◌-◌, length, map, take, drop, ap, ◌∙◌, arith}
use Rattle.std.specs.Prelude.{fold}
use Rattle.std.proofs.lemmas.List.{take_rest, length-drop}
use Rattle.render_stores.specs.Seen.{stores_seen}
use Rattle.view_drawing.specs.Passes.{after_part, part_seen, IsPlain}
use Rattle.view_drawing.proofs.Folds.{on_err_holds}
use Rattle.view_drawing.proofs.PassLaws.{all_dropped, all_taken, parts_more, begun_behind}
use Rattle.view_drawing.proofs.passes.enter_views.Goals as goal

pub enter_first-requires-clause-plain : goal.enter_first-requires-clause-plain
enter_first-requires-clause-plain g c =
    let views = c.args.views.now in
    let at = c.loop-at.at in
    all_taken IsPlain part_seen (length views - at) (drop at views) (all_dropped IsPlain part_seen at views c.requires)

pub loop-at-preserved : goal.loop-at-preserved
loop-at-preserved g c =
    let views = c.args.views.now in
    let at = c.loop-at.at in
    let n = c.in_ok-count.count in
    let rest : take (length views - at) (drop at views) ≡ drop at views = take_rest views at in
    let long : length (take (length views - at) (drop at views)) ≡ length views - at = ap length rest ∙ length-drop at views in
    record {
      within = omega (arith, c.loop-at.invariant.within, c.in_ok-count.ensures.length, long);
      done = parts_more part_seen views at n (stores_seen c.args.stores.now) (stores_seen c.loop-at.stores) (stores_seen c.enter_first.new.stores) c.loop-at.invariant.done
          (c.in_ok-count.ensures.entered ∙ ap (λ xs. fold after_part (stores_seen c.loop-at.stores) (map part_seen (take n xs))) rest);
    }

pub returns-in_err-count-clause-begun : goal.returns-in_err-count-clause-begun
returns-in_err-count-clause-begun g c =
    on_err_holds c.from_residual.result
    (begun_behind part_seen c.args.views.now c.loop-at.at (stores_seen c.args.stores.now) (stores_seen c.loop-at.stores) (stores_seen c.enter_first.new.stores) c.loop-at.invariant.done c.in_err-count.ensures.begun)
