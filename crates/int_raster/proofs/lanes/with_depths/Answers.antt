use Rattle.int_raster.proofs.Vectors.{deeper_words}
use Rattle.int_raster.proofs.lanes.with_depths.Goals as goal

pub returns : goal.returns
returns c = deeper_words c.args.reach.now.bits c.args.reach.now.taken c.args.words c.fits-words.0 c.args.depths c.fits-depths.0
