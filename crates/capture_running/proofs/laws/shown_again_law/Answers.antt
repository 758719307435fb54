use Rattle.capture_running.proofs.Endings.{is-shown}
use Rattle.capture_running.proofs.laws.shown_again_law.Goals as goal

pub returns : goal.returns
returns c = is-shown
