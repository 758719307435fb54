use Rattle.tri_cover.proofs.Shortened.{in_first_four}
use Rattle.tri_cover.proofs.quads.four.Goals as goal

pub returns : goal.returns
returns c = in_first_four c.args.short.now
