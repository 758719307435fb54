use Rattle.tri_cover.proofs.Shortened.{most_of_one}
use Rattle.tri_cover.proofs.quads.at_least.Goals as goal

pub returns : goal.returns
returns c = most_of_one c.args.words c.fits-words.0 c.args.n
