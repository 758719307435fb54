use Rattle.scene_progress.proofs.Reached.{first, next}
use Rattle.scene_progress.proofs.next_law.Goals as goal

pub returns-clause-first : goal.returns-clause-first
returns-clause-first c = first

pub returns-clause-next : goal.returns-clause-next
returns-clause-next c = next
