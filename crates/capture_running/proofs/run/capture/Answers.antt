use Rattle.capture_running.proofs.Endings.{as-defined, as-refused}
use Rattle.capture_running.proofs.run.capture.Goals as goal

pub returns-clause-refused : goal.returns-clause-refused
returns-clause-refused g c bytes given other = as-refused _ _ _ _ bytes _ c.run.result.status c.run.ensures.ends given other

pub returns-clause-complete : goal.returns-clause-complete
returns-clause-complete g c bytes given taken = as-defined _ _ _ _ bytes _ c.run.result.status c.run.ensures.ends given taken
