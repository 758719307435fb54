use Rattle.target_scenes.proofs.Targeters.{found-of}
use Rattle.target_scenes.proofs.targeter.Targeter.into_found.Goals as goal

pub returns : goal.returns
returns c = λ frames s. found-of c.args.self frames s
