use Rattle.call_laws.proofs.ContextLaws.{frame_says}
use Rattle.call_laws.proofs.frame_says_law.Goals as goal

pub returns : goal.returns
returns c = frame_says
