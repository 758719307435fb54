use Rattle.int_raster.proofs.Vectors.{numbers_there}
use Rattle.int_raster.proofs.sampling.numbers_at.Goals as goal

pub returns : goal.returns
returns c = numbers_there c.args.places c.fits-places.0 c.args.width c.fits-width.0
