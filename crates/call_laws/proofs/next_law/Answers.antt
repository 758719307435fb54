use Rattle.call_laws.proofs.ContextLaws.{written_next}
use Rattle.call_laws.proofs.next_law.Goals as goal

pub returns : goal.returns
returns c = written_next
