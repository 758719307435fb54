use Rattle.context_core.proofs.ItemLaws as laws
use Rattle.context_core.proofs.targets_law.Goals as goal

pub returns : goal.returns
returns c = laws.targets_law
