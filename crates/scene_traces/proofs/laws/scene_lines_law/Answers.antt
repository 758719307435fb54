use Rattle.scene_traces.proofs.SceneLines.{scene-lines-law}
use Rattle.scene_traces.proofs.laws.scene_lines_law.Goals as goal

pub returns : goal.returns
returns c = scene-lines-law
