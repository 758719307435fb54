use Rattle.resource_laws.proofs.StartLaws.{lawful_started}
use Rattle.resource_laws.proofs.start_law.Goals as goal

pub returns : goal.returns
returns c = (λ r frame l le. lawful_started r frame l le)
