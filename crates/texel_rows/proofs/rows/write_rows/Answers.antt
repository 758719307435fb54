use Rattle.std.proofs.Common.{arith}
use Rattle.texel_rows.specs.Rows.{row_bytes}
use Rattle.texel_rows.proofs.RowLaws.{next_written, part_is, part_short, row_fits, place_fits}
use Rattle.texel_rows.proofs.rows.write_rows.Goals as goal

pub loop-y-preserved : goal.loop-y-preserved
loop-y-preserved c =
    let w = c.from-width.result in
    let y = c.loop-y.y in
    let cs = c.as_slice-all.result.now in
    next_written (row_bytes c.args.order) w c.args.stride cs y c.args.buffer.now c.loop-y.buffer c.put_row.new.buffer _ c.loop-y.invariant
    (part_is y w cs)
    (row_fits _ _ _ _ c.put_row.ensures.many (part_short y w _ cs c.from-width.ensures) c.requires.wide)
    (place_fits y _ c.args.stride _ _ (omega (arith, c.loop-y-test.true, c.from-y-end.ensures)) c.requires.room)
    c.put_row.ensures.put
