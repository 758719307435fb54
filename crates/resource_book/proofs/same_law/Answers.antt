use Rattle.resource_book.proofs.SameLaws as laws
use Rattle.resource_book.proofs.same_law.Goals as goal

pub returns : goal.returns
returns c = laws.same_law
