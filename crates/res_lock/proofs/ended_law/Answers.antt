use Rattle.res_lock.proofs.EndedLaws.{ended_law}
use Rattle.res_lock.proofs.ended_law.Goals as goal

pub returns : goal.returns
returns c = ended_law
