use Rattle.std.proofs.Common.{take, ap, sym, arith, ◌∙◌}
use Rattle.int_raster.proofs.FourPixels.{three_each}
use Rattle.int_raster.proofs.texts.write_four.Goals as goal

pub returns-clause-written : goal.returns-clause-written
returns-clause-written c = ap (take 12) c.copy_from_slice.ensures.after ∙ sym (three_each c.args.colors.now c.requires.four (λ i small. c.told-colors i (omega (arith, small, c.requires.four))))
