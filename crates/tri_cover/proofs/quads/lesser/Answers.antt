use Rattle.tri_cover.proofs.Shortened.{lanes_least}
use Rattle.tri_cover.proofs.quads.lesser.Goals as goal

pub returns : goal.returns
returns c = lanes_least c.args.a c.fits-a.0 c.args.b c.fits-b.0
