use Rattle.context_core.proofs.ItemLaws as laws
use Rattle.context_core.proofs.items_law.Goals as goal

pub returns : goal.returns
returns c = laws.items_law
