use Rattle.call_laws.proofs.WrittenLaws.{written_after}
use Rattle.call_laws.proofs.call_law.Goals as goal

pub returns : goal.returns
returns c = written_after
