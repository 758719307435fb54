use Rattle.int_raster.proofs.Halved.{lower_part, upper_part}
use Rattle.int_raster.proofs.lanes.parts_of.Goals as goal

pub returns-clause-lower : goal.returns-clause-lower
returns-clause-lower c = lower_part c.args.four c.fits-four.0 c.fits-four.1

pub returns-clause-upper : goal.returns-clause-upper
returns-clause-upper c = upper_part c.args.four c.fits-four.0 c.fits-four.1
