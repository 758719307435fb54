use Rattle.std.proofs.Common.{rules, map, ◌∙◌, ap, slice_index_or}
use Rattle.std.proofs.lemmas.List.{length-map}
use Rattle.gfx_model.specs.Number.{map_from}
use Rattle.tri_cover.specs.Shown.{setup_seen}
use Rattle.int_raster.specs.Drawing.{PreparedDraw, prepared_step}
use Rattle.int_raster.specs.Places.{below, by_place, flat_pixel, flat_pixels}
use Rattle.int_raster.specs.Repainted.{painted_as}
use Rattle.int_raster.specs.Seen.{paint_seen}
use Rattle.int_raster.proofs.Covered.{band_none}
use Rattle.int_raster.proofs.Wholes.{whole_flat}
use Rattle.int_raster.proofs.repainted.draw_flat_as.Goals as goal

pub returns-then-meets : goal.returns-then-meets
returns-then-meets c d =
    let rows = c.args.rows.now in
    let paint = paint_seen c.args.paint in
    let made : PreparedDraw = painted_as (slice_index_or c.args.list.now c.args.index d) paint in
    whole_flat rows.width c.args.colors.now c.draw_flat.new.colors (below rows.top (prepared_step made))
    (c.draw_flat.ensures
    ∙ ap (λ e. map_from (by_place rows.width (below rows.top (prepared_step e))) 0 (flat_pixels c.args.colors.now))
    (c.repainted-other.ensures (map setup_seen c.draw-draw.result.1.now) ∙ ap (λ e. painted_as e paint) (c.draw-draw.ensures d)))

pub returns-else-meets : goal.returns-else-meets
returns-else-meets c d =
    let rows = c.args.rows.now in
    let paint = paint_seen c.args.paint in
    let made : PreparedDraw = painted_as (slice_index_or c.args.list.now c.args.index d) paint in
    whole_flat rows.width c.args.colors.now c.args.colors.now (below rows.top (prepared_step made))
    (band_none made rows.width rows.top rows.count (flat_pixels c.args.colors.now) rows.wide
    (length-map c.args.colors.now flat_pixel ∙ c.requires.whole)
    (λ x y p b. c.meets.ensures d paint x y p (search rules) b))
