use Rattle.target_laws.proofs.Histories.{target-last-law}
use Rattle.target_laws.proofs.laws.target_last_law.Goals as goal

pub returns : goal.returns
returns c = target-last-law
