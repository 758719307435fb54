use Rattle.std.proofs.Common.{arith}
use Rattle.tri_cover.proofs.Shortened.{lanes_under}
use Rattle.tri_cover.proofs.quads.under.Goals as goal

pub returns : goal.returns
returns c = lanes_under c.args.n (omega arith) c.args.words c.fits-words.0 c.requires
