use Rattle.picture_laws.proofs.Kept.{cleared-law}
use Rattle.picture_laws.proofs.laws.cleared_law.Goals as goal

pub returns : goal.returns
returns c = cleared-law
