use Rattle.scene_tracing.proofs.Blamers.{blamed-of}
use Rattle.scene_tracing.proofs.blamer.Blamer.into_blamed.Goals as goal

pub returns : goal.returns
returns c = λ frames s. blamed-of c.args.self frames s
