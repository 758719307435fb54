use Rattle.shared_items.proofs.Sharing.{pairs-law}
use Rattle.shared_items.proofs.laws.pairs_law.Goals as goal

pub returns : goal.returns
returns c = pairs-law
