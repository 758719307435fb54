use Rattle.call_laws.proofs.ContextLaws.{context_pictures}
use Rattle.call_laws.proofs.run_law.Goals as goal

pub returns : goal.returns
returns c = context_pictures
