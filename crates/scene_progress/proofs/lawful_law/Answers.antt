use Rattle.scene_progress.proofs.Journals.{none_lawful, lawful_more, lawful_count}
use Rattle.scene_progress.proofs.lawful_law.Goals as goal

pub returns-clause-none : goal.returns-clause-none
returns-clause-none c = none_lawful

pub returns-clause-more : goal.returns-clause-more
returns-clause-more c = lawful_more

pub returns-clause-count : goal.returns-clause-count
returns-clause-count c = lawful_count
