use Rattle.std.proofs.Common.{arith}
use Rattle.int_raster.proofs.FourPixels.{next_four}
use Rattle.int_raster.proofs.texts.write_most.Goals as goal

pub loop-i-preserved : goal.loop-i-preserved
loop-i-preserved c = next_four c.loop-i.room c.write_four.new.room c.args.colors.now c.loop-i.i (omega (arith, c.loop-i.auto.room, c.requires.room, c.requires.less, c.loop-i-test.true)) c.write_four.ensures.many c.loop-i.invariant c.write_four.ensures.written
