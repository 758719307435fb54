use Rattle.std.proofs.Common.{refl}
use Rattle.tri_cover.proofs.Shortened.{below_four}
use Rattle.tri_cover.proofs.quads.by_four.Goals as goal

pub returns : goal.returns
returns c = below_four _ refl refl refl refl
