use Rattle.int_raster.proofs.Halved.{shares_are, shares_fit}
use Rattle.int_raster.proofs.sampling.places_of.Goals as goal

pub overflow_cast-result-3 : goal.overflow_cast-result-3
overflow_cast-result-3 c = shares_fit c.args.at c.args.sides c.fits-at.0 c.fits-at.1 c.fits-sides.0 c.fits-sides.1

pub returns : goal.returns
returns c = shares_are c.args.at c.args.sides c.fits-at.0 c.fits-at.1 c.fits-sides.0 c.fits-sides.1
