use Rattle.generated_scene.proofs.Readable.{generated_keeps}
use Rattle.generated_scene.proofs.laws.generated_law.Goals as goal

pub returns : goal.returns
returns c = generated_keeps
