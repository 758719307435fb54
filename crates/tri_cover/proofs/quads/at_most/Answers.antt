use Rattle.tri_cover.proofs.Shortened.{least_of_one}
use Rattle.tri_cover.proofs.quads.at_most.Goals as goal

pub returns : goal.returns
returns c = least_of_one c.args.words c.fits-words.0 c.args.n
