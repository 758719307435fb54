use Rattle.std.proofs.Common.{◌≡◌, ◌≤◌, length, slice_index_or, arith, ap, sym, ◌∙◌}
use Rattle.std.proofs.lemmas.List.{take_all}
use Rattle.std.proofs.lemmas.List.Sums.{fold_more}
use Rattle.int_raster.specs.Drawing.{prepared_step}
use Rattle.int_raster.specs.Places.{below}
use Rattle.int_raster.specs.Bands.{deep, deep_after, deep_drawn}
use Rattle.int_raster.proofs.Covered.{no_draw}
use Rattle.int_raster.proofs.Wholes.{whole_deep}
use Rattle.int_raster.proofs.bands.draw_deep_list.Goals as goal

pub loop-index-preserved : goal.loop-index-preserved
loop-index-preserved c =
    let w = c.args.rows.now.width in
    let top = c.args.rows.now.top in
    let made = slice_index_or c.args.list.now c.loop-index.index no_draw in
    let same : length c.draw_deep_listed.new.depths ≡ length c.draw_deep_listed.new.colors = omega (arith, c.draw_deep_listed.auto.depths, c.draw_deep_listed.auto.colors, c.loop-index.auto.depths, c.loop-index.auto.colors, c.requires.same) in
    whole_deep w c.loop-index.colors c.draw_deep_listed.new.colors c.loop-index.depths c.draw_deep_listed.new.depths (below top (prepared_step made)) (c.draw_deep_listed.ensures no_draw) same c.tell_texels.ensures
    ∙ ap (deep_after w (below top (prepared_step made))) c.loop-index.invariant
    ∙ sym (fold_more (λ s d. deep_after w (below top (prepared_step d)) s) (deep c.args.colors.now c.args.depths.now) c.args.list.now c.loop-index.index no_draw (omega arith))

pub returns : goal.returns
returns c =
    let all : length c.args.list.now ≤ c.loop-index.index = omega arith in
    c.loop-index.invariant ∙ ap (deep_drawn c.args.rows.now.width c.args.rows.now.top (deep c.args.colors.now c.args.depths.now)) (take_all c.loop-index.index c.args.list.now all)
