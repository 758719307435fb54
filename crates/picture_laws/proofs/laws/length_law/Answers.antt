use Rattle.picture_laws.proofs.Lengths.{length-law}
use Rattle.picture_laws.proofs.laws.length_law.Goals as goal

pub returns : goal.returns
returns c = length-law
