use Rattle.tri_cover.proofs.Shortened.{lane_sums}
use Rattle.tri_cover.proofs.quads.sums.Goals as goal

pub returns : goal.returns
returns c = lane_sums c.args.a c.fits-a.0 c.args.b c.fits-b.0
