use Rattle.int_raster.proofs.Halved.{joined_is}
use Rattle.int_raster.proofs.lanes.joined.Goals as goal

pub returns : goal.returns
returns c = joined_is c.args.eight c.fits-eight.0 c.fits-eight.1
