use Rattle.std.proofs.Common.{rules, ◌∙◌, ap, slice_index_or}
use Rattle.std.proofs.lemmas.List.{length-map}
use Rattle.gfx_model.specs.Number.{map_from}
use Rattle.int_raster.specs.Drawing.{prepared_step}
use Rattle.int_raster.specs.Places.{below, by_place, flat_pixel, flat_pixels}
use Rattle.int_raster.proofs.Covered.{band_none}
use Rattle.int_raster.proofs.bands.draw_flat_listed.Goals as goal

pub returns-then-meets : goal.returns-then-meets
returns-then-meets c d =
    let rows = c.args.rows.now in
    c.draw_flat.ensures ∙ ap (λ e. map_from (by_place rows.width (below rows.top (prepared_step e))) 0 (flat_pixels c.args.colors.now)) (c.draw-draw.ensures d)

pub returns-else-meets : goal.returns-else-meets
returns-else-meets c d =
    let rows = c.args.rows.now in
    band_none (slice_index_or c.args.list.now c.args.index d) rows.width rows.top rows.count (flat_pixels c.args.colors.now) rows.wide
    (length-map c.args.colors.now flat_pixel ∙ c.requires.whole)
    (λ x y p b. c.meets.ensures d (slice_index_or c.args.list.now c.args.index d).paint x y p (search rules) b)
