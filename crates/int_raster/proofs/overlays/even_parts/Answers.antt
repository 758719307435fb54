use Rattle.std.proofs.Common.{arith}
use Rattle.int_raster.proofs.Eights.{low_byte}
use Rattle.int_raster.proofs.overlays.even_parts.Goals as goal

pub returns-clause-byte : goal.returns-clause-byte
returns-clause-byte c = low_byte c.args.parts c.fits-parts.0

pub returns-clause-few : goal.returns-clause-few
returns-clause-few c j h = omega (arith, low_byte c.args.parts c.fits-parts.0 j h)
