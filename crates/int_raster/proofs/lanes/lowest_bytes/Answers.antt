use Rattle.int_raster.proofs.Halved.{front_bytes, back_bytes}
use Rattle.int_raster.proofs.lanes.lowest_bytes.Goals as goal

pub returns-clause-front : goal.returns-clause-front
returns-clause-front c = front_bytes c.args.a c.args.b c.fits-a.1 c.fits-b.1

pub returns-clause-back : goal.returns-clause-back
returns-clause-back c = back_bytes c.args.a c.args.b c.fits-a.1 c.fits-b.1
