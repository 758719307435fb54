use Rattle.context_laws.proofs.Calls.{calls_of_cores}
use Rattle.context_laws.proofs.context_calls.Goals as goal

pub returns : goal.returns
returns g c = calls_of_cores _
