use Rattle.scene_progress.proofs.Reached.{plan, plan_count}
use Rattle.scene_progress.proofs.plan_law.Goals as goal

pub returns-clause-plan : goal.returns-clause-plan
returns-clause-plan c = plan

pub returns-clause-count : goal.returns-clause-count
returns-clause-count c = plan_count
