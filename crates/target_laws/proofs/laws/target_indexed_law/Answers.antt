use Rattle.target_laws.proofs.Indexed.{target-indexed-law}
use Rattle.target_laws.proofs.laws.target_indexed_law.Goals as goal

pub returns : goal.returns
returns c = target-indexed-law
