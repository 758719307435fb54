use Rattle.resource_laws.proofs.StartLaws.{lawful_opening}
use Rattle.resource_laws.proofs.opening_law.Goals as goal

pub returns : goal.returns
returns c = lawful_opening
