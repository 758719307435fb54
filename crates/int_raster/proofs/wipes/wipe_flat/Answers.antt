use Rattle.std.proofs.Common.{◌≤◌, List, length, fold, arith, ap, sym, ◌∙◌}
use Rattle.std.proofs.lemmas.List.{take_all}
use Rattle.std.proofs.lemmas.List.Sums.{fold_more}
use Rattle.std.proofs.lemmas.List.Folds.{fold-map}
use Rattle.int_raster.specs.Places.{below, flat_pixels}
use Rattle.int_raster.specs.Bands.{flat_after}
use Rattle.gfx_model.specs.Vertex.{Color}
use Rattle.int_raster.specs.Wiping.{Wiping, wipe_seen, wiped_step}
use Rattle.int_raster.proofs.Wholes.{whole_flat}
use Rattle.int_raster.proofs.Wiped.{flat_wiped_pixels}
use Rattle.int_raster.proofs.wipes.wipe_flat.Goals as goal

pub loop-wipe-preserved : goal.loop-wipe-preserved
loop-wipe-preserved c =
    let w = c.args.rows.now.width in
    let top = c.args.rows.now.top in
    let made = wipe_seen c.wipe-item.result in
    whole_flat w c.loop-wipe.colors c.wipe_colors.new.colors (below top (wiped_step made)) (ap flat_pixels c.wipe_colors.ensures ∙ flat_wiped_pixels made w top 0 c.loop-wipe.colors)
    ∙ (λ i. flat_after w (below top (wiped_step (wipe_seen (c.wipe-item.is i)))) (c.loop-wipe.invariant i))
    ∙ sym (fold_more (λ cs x. flat_after w (below top (wiped_step (wipe_seen x))) cs) c.args.colors.now c.args.wipes.now c.loop-wipe.wipe-index c.wipe-item.result c.loop-wipe-test.true)

pub returns : goal.returns
returns c =
    let step : List Color → Wiping → List Color = λ cs x. flat_after c.args.rows.now.width (below c.args.rows.now.top (wiped_step x)) cs in
    let all : length c.args.wipes.now ≤ c.loop-wipe.wipe-index = omega arith in
    c.loop-wipe.invariant
    ∙ ap (fold (λ cs x. step cs (wipe_seen x)) c.args.colors.now) (take_all c.loop-wipe.wipe-index c.args.wipes.now all)
    ∙ sym (fold-map step wipe_seen c.args.colors.now c.args.wipes.now)
