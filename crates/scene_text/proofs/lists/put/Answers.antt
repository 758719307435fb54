use Rattle.std.proofs.Common.{refl}
use Rattle.std.proofs.lemmas.Int.{to_z-of_z}
use Rattle.scene_text.proofs.lists.put.Goals as goal

pub returns : goal.returns
returns c = rw (to_z-of_z _ _ c.ranges.number) refl
