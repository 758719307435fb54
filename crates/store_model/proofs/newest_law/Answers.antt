use Rattle.store_model.proofs.NewestLaws.{newest_found, newest_none}
use Rattle.store_model.proofs.newest_law.Goals as goal

pub returns-clause-found : goal.returns-clause-found
returns-clause-found c = newest_found

pub returns-clause-none : goal.returns-clause-none
returns-clause-none c = newest_none
