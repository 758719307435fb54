use Rattle.int_raster.proofs.Halved.{parts_larger}
use Rattle.int_raster.proofs.lanes.larger_parts.Goals as goal

pub returns : goal.returns
returns c = parts_larger c.args.a c.fits-a.0 c.args.b c.fits-b.0
