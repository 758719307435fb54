use Rattle.std.proofs.Common.{arith}
use Rattle.int_raster.proofs.painters.level.Goals as goal

pub returns : goal.returns
returns c x y = omega arith
