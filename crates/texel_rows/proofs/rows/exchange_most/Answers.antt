use Rattle.std.proofs.Common.{arith}
use Rattle.texel_rows.proofs.RowLaws.{next_four}
use Rattle.texel_rows.proofs.rows.exchange_most.Goals as goal

pub loop-i-preserved : goal.loop-i-preserved
loop-i-preserved c = next_four c.loop-i.room c.exchange_four.new.room c.args.row.now c.loop-i.i (omega (arith, c.loop-i.auto.room, c.requires.room, c.requires.most, c.loop-i-test.true)) c.exchange_four.ensures.many c.loop-i.invariant c.exchange_four.ensures.written
