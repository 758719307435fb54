use Rattle.std.proofs.Common.{arith}
use Rattle.vertex_layout.proofs.fetch.byte_again.Goals as goal

pub returns : goal.returns
returns c = omega (arith, c.ranges.byte.fits)
