use Rattle.store_model.proofs.TargetLaws.{put_back, put_changed, others_stay}
use Rattle.store_model.proofs.put_back_law.Goals as goal

pub returns-clause-same : goal.returns-clause-same
returns-clause-same c = put_back

pub returns-clause-changed : goal.returns-clause-changed
returns-clause-changed c = put_changed

pub returns-clause-others : goal.returns-clause-others
returns-clause-others c = others_stay
