use Rattle.std.proofs.Common.{◌≡◌, ◌≤◌, length, fold, arith, ap, sym, ◌∙◌}
use Rattle.std.proofs.lemmas.List.{take_all}
use Rattle.std.proofs.lemmas.List.Sums.{fold_more}
use Rattle.std.proofs.lemmas.List.Folds.{fold-map}
use Rattle.int_raster.specs.Places.{below}
use Rattle.int_raster.specs.Bands.{Deep, deep, deep_after}
use Rattle.int_raster.specs.Wiping.{Wiping, wipe_seen, wiped_step}
use Rattle.int_raster.proofs.Wholes.{whole_deep}
use Rattle.int_raster.proofs.wipes.wipe_deep.Goals as goal

pub loop-wipe-preserved : goal.loop-wipe-preserved
loop-wipe-preserved c =
    let w = c.args.rows.now.width in
    let top = c.args.rows.now.top in
    let made = wipe_seen c.wipe-item.result in
    let same : length c.wipe_both.new.depths ≡ length c.wipe_both.new.colors = omega (arith, c.wipe_both.auto.depths, c.wipe_both.auto.colors, c.loop-wipe.auto.depths, c.loop-wipe.auto.colors, c.requires.same) in
    whole_deep w c.loop-wipe.colors c.wipe_both.new.colors c.loop-wipe.depths c.wipe_both.new.depths (below top (wiped_step made)) c.wipe_both.ensures same c.tell_texels.ensures
    ∙ (λ i. deep_after w (below top (wiped_step (wipe_seen (c.wipe-item.is i)))) (c.loop-wipe.invariant i))
    ∙ sym (fold_more (λ b x. deep_after w (below top (wiped_step (wipe_seen x))) b) (deep c.args.colors.now c.args.depths.now) c.args.wipes.now c.loop-wipe.wipe-index c.wipe-item.result c.loop-wipe-test.true)

pub returns : goal.returns
returns c =
    let step : Deep → Wiping → Deep = λ b x. deep_after c.args.rows.now.width (below c.args.rows.now.top (wiped_step x)) b in
    let all : length c.args.wipes.now ≤ c.loop-wipe.wipe-index = omega arith in
    c.loop-wipe.invariant
    ∙ ap (fold (λ b x. step b (wipe_seen x)) (deep c.args.colors.now c.args.depths.now)) (take_all c.loop-wipe.wipe-index c.args.wipes.now all)
    ∙ sym (fold-map step wipe_seen (deep c.args.colors.now c.args.depths.now) c.args.wipes.now)
