use Rattle.tri_cover.proofs.Shortened.{lane_pairs}
use Rattle.tri_cover.proofs.quads.pairs.Goals as goal

pub returns : goal.returns
returns c = lane_pairs c.args.from c.fits-from.0 c.args.to c.fits-to.0 c.requires.from c.requires.to
