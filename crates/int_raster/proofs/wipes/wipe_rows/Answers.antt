use Rattle.std.proofs.Common.{◌≡◌, ◌+◌, ◌*◌, length, map, arith, ap, ◌∙◌}
use Rattle.std.proofs.lemmas.List.{length-map}
use Rattle.gfx_model.specs.Number.{map_from}
use Rattle.gfx_model.specs.Raster.{contains}
use Rattle.gfx_model.specs.World.{cleared_word}
use Rattle.int_raster.specs.Places.{above, below}
use Rattle.int_raster.specs.Wiping.{wipe_seen, wiped_word, word_in}
use Rattle.int_raster.proofs.Raster.{row_more, rows_before, rows_behind}
use Rattle.int_raster.proofs.Rowed.{row_inside}
use Rattle.int_raster.proofs.wipes.wipe_rows.Goals as goal

pub loop-row-init : goal.loop-row-init
loop-row-init c =
    let rows = c.args.rows.now in
    let w = wipe_seen c.args.wipe.now in
    rows_before (below rows.top (λ x y word. cleared_word w.clear word)) (λ x y. contains w.cut x (rows.top + y)) rows.width rows.count c.cut_rows-top.result.0 (map word_in c.args.depths.now) rows.wide (length-map c.args.depths.now word_in ∙ c.requires.whole)
    (λ x y b t. (c.cut_rows-top.ensures.all x y b t).0)

pub wipe_span-requires : goal.wipe_span-requires
wipe_span-requires c =
    let size : length c.loop-row.depths ≡ c.args.rows.now.width * c.args.rows.now.count = omega (arith, c.loop-row.auto.depths, c.requires.whole) in
    record { inside = row_inside c.loop-row.row c.args.rows.now.count c.args.rows.now.width c.cut_columns-first.result.1 (length c.loop-row.depths) (omega (arith, c.loop-row-test.true, c.cut_rows-top.ensures.within)) c.cut_columns-first.ensures.within size }

pub loop-row-preserved : goal.loop-row-preserved
loop-row-preserved c =
    let rows = c.args.rows.now in
    let w = wipe_seen c.args.wipe.now in
    let ends = c.cut_columns-first.result in
    let here = c.cut_rows-top.ensures.first c.loop-row.row c.loop-row.auto.row c.loop-row-test.true in
    row_more (λ x y word. cleared_word w.clear word) (contains w.cut) rows.width rows.top c.loop-row.row ends.0 ends.1
    (map word_in c.args.depths.now) (map word_in c.loop-row.depths) (map word_in c.wipe_span.new.depths) rows.wide c.cut_columns-first.ensures.within
    (λ x b. c.cut_columns-first.ensures.columns x (rows.top + c.loop-row.row) b here.0 here.1)
    c.loop-row.invariant c.wipe_span.ensures

pub returns : goal.returns
returns c =
    let rows = c.args.rows.now in
    let w = wipe_seen c.args.wipe.now in
    let last : c.loop-row.row ≡ c.cut_rows-top.result.1 = omega arith in
    rows_behind (below rows.top (λ x y word. cleared_word w.clear word)) (λ x y. contains w.cut x (rows.top + y)) rows.width rows.count c.cut_rows-top.result.1 (map word_in c.args.depths.now) (map word_in c.loop-row.depths) rows.wide (length-map c.args.depths.now word_in ∙ c.requires.whole)
    (λ x y b t. (c.cut_rows-top.ensures.all x y b t).1)
    (c.loop-row.invariant ∙ ap (λ n. map_from (above rows.width n (below rows.top (wiped_word w))) 0 (map word_in c.args.depths.now)) last)
