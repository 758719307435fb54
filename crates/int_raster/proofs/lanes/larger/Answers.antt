use Rattle.tri_cover.proofs.Shortened.{lanes_most}
use Rattle.int_raster.proofs.lanes.larger.Goals as goal

pub returns : goal.returns
returns c = lanes_most c.args.a c.fits-a.0 c.args.b c.fits-b.0
