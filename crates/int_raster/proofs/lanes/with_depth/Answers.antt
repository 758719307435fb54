use Rattle.int_raster.proofs.Vectors.{deep_words}
use Rattle.int_raster.proofs.lanes.with_depth.Goals as goal

pub returns : goal.returns
returns c = deep_words c.args.bits c.args.depth c.args.words c.fits-words.0
