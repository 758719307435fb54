use Rattle.int_raster.proofs.Vectors.{keeps_first}
use Rattle.int_raster.proofs.lanes.first_kept.Goals as goal

pub returns : goal.returns
returns c = keeps_first c.args.left c.args.old c.fits-old.0 c.args.new c.fits-new.0
