use Rattle.tri_cover.proofs.Shortened.{lanes_few, lanes_whole}
use Rattle.tri_cover.proofs.quads.whole_columns.Goals as goal

pub returns-clause-whole : goal.returns-clause-whole
returns-clause-whole c = lanes_whole c.args.words c.fits-words.0

pub returns-clause-few : goal.returns-clause-few
returns-clause-few c = lanes_few c.args.words c.fits-words.0 c.fits-words.1
