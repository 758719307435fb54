use Rattle.std.proofs.Common.{◌≡◌, ◌≤◌, ◌<◌, take, length, slice_index_or, arith, ap, sym, ◌∙◌}
use Rattle.std.proofs.lemmas.List.{take_all}
use Rattle.std.proofs.lemmas.List.Sums.{fold_more}
use Rattle.int_raster.specs.Drawing.{PreparedDraw, prepared_step}
use Rattle.int_raster.specs.Places.{below}
use Rattle.int_raster.specs.Bands.{deep, deep_after, deep_drawn}
use Rattle.int_raster.specs.Repainted.{painted_as}
use Rattle.int_raster.specs.Seen.{paint_seen}
use Rattle.int_raster.proofs.Covered.{no_draw}
use Rattle.pass_bands.specs.Planned.{planned_draw}
use Rattle.pass_bands.specs.Drawn.{work_seen}
use Rattle.pass_bands.proofs.PlanLaws.{length-zip, zip_at}
use Rattle.pass_bands.proofs.drawing.draw_deep_rows.Goals as goal

pub loop-index-preserved : goal.loop-index-preserved
loop-index-preserved c =
    let rows = c.args.rows.now in
    let work = c.args.work.now in
    let w = rows.width in
    let top = rows.top in
    let i = c.loop-index.index in
    let old = deep c.args.colors.now c.args.depths.now in
    let f = planned_draw work.textures in
    let ds = work.plan.list in
    let ps = work.plan.paints.items in
    let inside : i < length ds = omega (arith, c.len-index-end.ensures, c.loop-index-test.true) in
    let long : length (work_seen work) ≡ length ds = length-zip f ds ps work.plan.same in
    let paint = paint_seen c.with-paint.result in
    let made : PreparedDraw = painted_as (slice_index_or ds i no_draw) paint in
    let there : made ≡ slice_index_or (work_seen work) i no_draw =
    ap (painted_as (slice_index_or ds i no_draw)) c.with-paint.ensures
    ∙ ap (f (slice_index_or ds i no_draw)) c.index.ensures
    ∙ sym (zip_at f ds ps i no_draw c.index.result.now no_draw inside work.plan.same) in
    c.draw_deep_as.ensures no_draw
    ∙ ap (deep_after w (below top (prepared_step made))) c.loop-index.invariant
    ∙ ap (λ d. deep_after w (below top (prepared_step d)) (deep_drawn w top old (take i (work_seen work)))) there
    ∙ sym (fold_more (λ s d. deep_after w (below top (prepared_step d)) s) old (work_seen work) i no_draw (omega (arith, inside, long)))

pub returns : goal.returns
returns c =
    let rows = c.args.rows.now in
    let work = c.args.work.now in
    let long : length (work_seen work) ≡ length work.plan.list = length-zip (planned_draw work.textures) work.plan.list work.plan.paints.items work.plan.same in
    let all : length (work_seen work) ≤ c.loop-index.index = omega (arith, long, c.len-index-end.ensures) in
    c.loop-index.invariant ∙ ap (deep_drawn rows.width rows.top (deep c.args.colors.now c.args.depths.now)) (take_all c.loop-index.index (work_seen work) all)
