use Rattle.int_raster.proofs.Vectors.{keeps_within}
use Rattle.int_raster.proofs.lanes.kept_within.Goals as goal

pub returns : goal.returns
returns c = keeps_within c.args.left c.args.reach.now.least c.args.reach.now.more c.args.old c.fits-old.0 c.args.new c.fits-new.0 c.args.words c.fits-words.0 c.args.depths c.fits-depths.0
