use Rattle.picture_laws.proofs.Clears.{whole-law}
use Rattle.picture_laws.proofs.laws.whole_law.Goals as goal

pub returns : goal.returns
returns c = whole-law
