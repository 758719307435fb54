use Rattle.scene_lines.proofs.Places.{scene_places}
use Rattle.scene_lines.proofs.places_law.Goals as goal

pub returns : goal.returns
returns c = scene_places
