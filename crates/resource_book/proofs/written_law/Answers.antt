use Rattle.resource_book.proofs.WrittenLaws as laws
use Rattle.resource_book.proofs.written_law.Goals as goal

pub returns : goal.returns
returns c = laws.written_law
