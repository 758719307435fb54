use Rattle.std.proofs.Common.{◌+◌, ◌≤◌, [], length, get_or, sym, ap, ◌∙◌, arith}
use Rattle.texture_store.specs.Block.{texel_of_row}
use Rattle.texture_store.proofs.BlockLaws.{no_rows, row_more}
use Rattle.texture_store.proofs.RowLaws.{length_row, element_of_row, row_fits}
use Rattle.texture_store.proofs.rows.copy_rows.Goals as goal

pub loop-r-init : goal.loop-r-init
loop-r-init c = sym (no_rows c.args.width c.args.cut.now.dx c.args.cut.now.dy c.args.cut.now.w (texel_of_row c.args.from.now c.args.from_width c.args.cut.now.dx c.args.cut.now.dy c.args.cut.now.sx c.args.cut.now.sy) c.args.to.now)

pub loop-r-preserved : goal.loop-r-preserved
loop-r-preserved c =
    let from_room : c.place.result + c.args.cut.now.w ≤ length c.args.from.now =
    row_fits (c.args.cut.now.sy + c.loop-r.r) (c.args.cut.now.sy + c.args.cut.now.h) c.args.from_width c.args.cut.now.sx c.args.cut.now.w (length c.args.from.now) c.place.result (omega (arith, c.loop-r-test.true)) c.requires.from_right c.place.ensures c.requires.from_below in
    let room : c.place-at.result + c.args.cut.now.w ≤ length c.args.to.now =
    row_fits (c.args.cut.now.dy + c.loop-r.r) (c.args.cut.now.dy + c.args.cut.now.h) c.args.width c.args.cut.now.dx c.args.cut.now.w (length c.args.to.now) c.place-at.result (omega (arith, c.loop-r-test.true)) c.requires.right c.place-at.ensures c.requires.below in
    row_more c.args.width c.args.cut.now.dx c.args.cut.now.dy c.args.cut.now.w c.loop-r.r
    (texel_of_row c.args.from.now c.args.from_width c.args.cut.now.dx c.args.cut.now.dy c.args.cut.now.sx c.args.cut.now.sy)
    c.args.to.now c.loop-r.to c.row_of-row.result.now c.put_row.new.to c.place-at.result
    c.requires.right c.place-at.ensures (omega (arith, room, c.loop-r.auto.to))
    (ap length c.row_of-row.ensures ∙ length_row c.args.cut.now.w c.place.result c.args.from.now from_room)
    c.loop-r.invariant
    (λ k lt. ap (λ xs. get_or xs k []) c.row_of-row.ensures
    ∙ element_of_row c.args.cut.now.w c.args.from_width c.args.cut.now.dx c.args.cut.now.dy c.args.cut.now.sx c.args.cut.now.sy c.loop-r.r k c.place.result c.args.from.now lt c.place.ensures from_room)
    c.put_row.ensures
