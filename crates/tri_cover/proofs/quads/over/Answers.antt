use Rattle.tri_cover.proofs.Shortened.{lanes_over}
use Rattle.tri_cover.proofs.quads.over.Goals as goal

pub returns : goal.returns
returns c = lanes_over c.args.n c.args.words c.fits-words.0 c.requires.low c.requires.high
