use Rattle.capture_running.proofs.Captures.{has-capture}
use Rattle.capture_running.proofs.laws.capture_law.Goals as goal

pub returns : goal.returns
returns c = has-capture
