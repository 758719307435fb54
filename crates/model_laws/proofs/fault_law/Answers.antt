use Rattle.scene_model.proofs.FaultLaws.{fault-law}
use Rattle.model_laws.proofs.fault_law.Goals as goal

pub returns : goal.returns
returns c = fault-law
