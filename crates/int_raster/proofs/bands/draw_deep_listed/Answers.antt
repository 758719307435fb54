use Rattle.std.proofs.Common.{rules, ◌∙◌, ap, slice_index_or}
use Rattle.gfx_model.specs.Number.{map_from}
use Rattle.int_raster.specs.Drawing.{prepared_step}
use Rattle.int_raster.specs.Places.{below, by_place, deep_pixels}
use Rattle.int_raster.proofs.Along.{length-deep}
use Rattle.int_raster.proofs.Covered.{band_none}
use Rattle.int_raster.proofs.bands.draw_deep_listed.Goals as goal

pub returns-then-meets : goal.returns-then-meets
returns-then-meets c d =
    let rows = c.args.rows.now in
    c.draw_deep.ensures ∙ ap (λ e. map_from (by_place rows.width (below rows.top (prepared_step e))) 0 (deep_pixels c.args.colors.now c.args.depths.now)) (c.draw-draw.ensures d)

pub returns-else-meets : goal.returns-else-meets
returns-else-meets c d =
    let rows = c.args.rows.now in
    band_none (slice_index_or c.args.list.now c.args.index d) rows.width rows.top rows.count (deep_pixels c.args.colors.now c.args.depths.now) rows.wide
    (length-deep c.args.colors.now c.args.depths.now c.requires.same ∙ c.requires.whole)
    (λ x y p b. c.meets.ensures d (slice_index_or c.args.list.now c.args.index d).paint x y p (search rules) b)
