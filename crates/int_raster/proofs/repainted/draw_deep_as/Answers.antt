use Rattle.std.proofs.Common.{◌≡◌, length, arith, slice_index_or}
use Rattle.int_raster.specs.Drawing.{prepared_step}
use Rattle.int_raster.specs.Places.{below}
use Rattle.int_raster.specs.Repainted.{painted_as}
use Rattle.int_raster.specs.Seen.{paint_seen}
use Rattle.int_raster.proofs.Wholes.{whole_deep}
use Rattle.int_raster.proofs.repainted.draw_deep_as.Goals as goal

pub returns : goal.returns
returns c d =
    let rows = c.args.rows.now in
    let made = painted_as (slice_index_or c.args.list.now c.args.index d) (paint_seen c.args.paint) in
    let drawn = c.draw_deep_pixels_as in
    let same : length drawn.new.depths ≡ length drawn.new.colors = omega (arith, drawn.auto.depths, drawn.auto.colors, c.requires.same) in
    whole_deep rows.width c.args.colors.now drawn.new.colors c.args.depths.now drawn.new.depths (below rows.top (prepared_step made)) (drawn.ensures d) same c.tell_texels.ensures
