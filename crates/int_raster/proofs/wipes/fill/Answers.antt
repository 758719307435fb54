use Rattle.std.proofs.Common.{◌≡◌, ◌+◌, ◌*◌, length, arith, ap, ◌∙◌}
use Rattle.gfx_model.specs.Number.{map_from}
use Rattle.gfx_model.specs.Raster.{contains}
use Rattle.fix_math.specs.Seen.{rect_seen}
use Rattle.int_raster.specs.Places.{above, below, where_test}
use Rattle.int_raster.specs.Wiping.{one_texel}
use Rattle.int_raster.proofs.Raster.{row_more, rows_before, rows_behind}
use Rattle.int_raster.proofs.Rowed.{row_inside}
use Rattle.int_raster.proofs.wipes.fill.Goals as goal

pub loop-row-init : goal.loop-row-init
loop-row-init c =
    let rows = c.args.rows.now in
    rows_before (below rows.top (one_texel c.args.texel)) (λ x y. contains (rect_seen c.args.cut.now) x (rows.top + y)) rows.width rows.count c.cut_rows-top.result.0 c.args.texels.now rows.wide c.requires.whole
    (λ x y b t. (c.cut_rows-top.ensures.all x y b t).0)

pub fill_span-requires : goal.fill_span-requires
fill_span-requires c =
    let size : length c.loop-row.texels ≡ c.args.rows.now.width * c.args.rows.now.count = omega (arith, c.loop-row.auto.texels, c.requires.whole) in
    record { inside = row_inside c.loop-row.row c.args.rows.now.count c.args.rows.now.width c.cut_columns-first.result.1 (length c.loop-row.texels) (omega (arith, c.loop-row-test.true, c.cut_rows-top.ensures.within)) c.cut_columns-first.ensures.within size }

pub loop-row-preserved : goal.loop-row-preserved
loop-row-preserved c =
    let rows = c.args.rows.now in
    let ends = c.cut_columns-first.result in
    let here = c.cut_rows-top.ensures.first c.loop-row.row c.loop-row.auto.row c.loop-row-test.true in
    row_more (one_texel c.args.texel) (contains (rect_seen c.args.cut.now)) rows.width rows.top c.loop-row.row ends.0 ends.1
    c.args.texels.now c.loop-row.texels c.fill_span.new.texels rows.wide c.cut_columns-first.ensures.within
    (λ x b. c.cut_columns-first.ensures.columns x (rows.top + c.loop-row.row) b here.0 here.1)
    c.loop-row.invariant c.fill_span.ensures

pub returns : goal.returns
returns c =
    let rows = c.args.rows.now in
    let last : c.loop-row.row ≡ c.cut_rows-top.result.1 = omega arith in
    rows_behind (below rows.top (one_texel c.args.texel)) (λ x y. contains (rect_seen c.args.cut.now) x (rows.top + y)) rows.width rows.count c.cut_rows-top.result.1 c.args.texels.now c.loop-row.texels rows.wide c.requires.whole
    (λ x y b t. (c.cut_rows-top.ensures.all x y b t).1)
    (c.loop-row.invariant ∙ ap (λ n. map_from (above rows.width n (below rows.top (where_test (contains (rect_seen c.args.cut.now)) (one_texel c.args.texel)))) 0 c.args.texels.now) last)
