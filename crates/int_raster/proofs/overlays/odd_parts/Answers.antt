use Rattle.int_raster.proofs.Eights.{high_byte, half_byte}
use Rattle.int_raster.proofs.overlays.odd_parts.Goals as goal

pub returns-clause-byte : goal.returns-clause-byte
returns-clause-byte c = high_byte c.args.parts c.fits-parts.0

pub returns-clause-few : goal.returns-clause-few
returns-clause-few c = half_byte c.args.parts c.fits-parts.0 c.fits-parts.1
