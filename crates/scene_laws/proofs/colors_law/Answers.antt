use Rattle.scene_laws.proofs.Colors.{scene_colors}
use Rattle.scene_laws.proofs.colors_law.Goals as goal

pub returns : goal.returns
returns c = scene_colors
