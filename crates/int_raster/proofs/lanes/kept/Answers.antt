use Rattle.int_raster.proofs.Vectors.{keeps}
use Rattle.int_raster.proofs.lanes.kept.Goals as goal

pub returns : goal.returns
returns c = keeps c.args.left c.args.least c.args.more c.requires.low c.requires.few c.args.old c.fits-old.0 c.args.new c.fits-new.0 c.args.words c.fits-words.0
