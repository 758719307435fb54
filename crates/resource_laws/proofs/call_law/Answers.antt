use Rattle.resource_laws.proofs.CallLaws.{lawful_call}
use Rattle.resource_laws.proofs.call_law.Goals as goal

pub returns : goal.returns
returns c = lawful_call
