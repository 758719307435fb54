use Rattle.std.proofs.Common.{◌≤◌, length, slice_index_or, arith, ap, sym, ◌∙◌}
use Rattle.std.proofs.lemmas.List.{take_all}
use Rattle.std.proofs.lemmas.List.Sums.{fold_more}
use Rattle.int_raster.specs.Drawing.{prepared_step}
use Rattle.int_raster.specs.Places.{below}
use Rattle.int_raster.specs.Bands.{flat_after, flat_drawn}
use Rattle.int_raster.proofs.Covered.{no_draw}
use Rattle.int_raster.proofs.Wholes.{whole_flat}
use Rattle.int_raster.proofs.bands.draw_flat_list.Goals as goal

pub loop-index-preserved : goal.loop-index-preserved
loop-index-preserved c =
    let w = c.args.rows.now.width in
    let top = c.args.rows.now.top in
    let made = slice_index_or c.args.list.now c.loop-index.index no_draw in
    whole_flat w c.loop-index.colors c.draw_flat_listed.new.colors (below top (prepared_step made)) (c.draw_flat_listed.ensures no_draw)
    ∙ ap (flat_after w (below top (prepared_step made))) c.loop-index.invariant
    ∙ sym (fold_more (λ s d. flat_after w (below top (prepared_step d)) s) c.args.colors.now c.args.list.now c.loop-index.index no_draw (omega arith))

pub returns : goal.returns
returns c =
    let all : length c.args.list.now ≤ c.loop-index.index = omega arith in
    c.loop-index.invariant ∙ ap (flat_drawn c.args.rows.now.width c.args.rows.now.top c.args.colors.now) (take_all c.loop-index.index c.args.list.now all)
