use Rattle.target_laws.proofs.Histories.{target-history-law}
use Rattle.target_laws.proofs.laws.target_history_law.Goals as goal

pub returns : goal.returns
returns c = target-history-law
