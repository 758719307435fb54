use Rattle.std.proofs.Common.{refl}
use Rattle.std.proofs.lemmas.Int.{to_z-of_z}
use Rattle.scene_text.proofs.encoder_lines.four.Goals as goal

pub returns : goal.returns
returns c = rw (to_z-of_z _ _ c.ranges.x, to_z-of_z _ _ c.ranges.y, to_z-of_z _ _ c.ranges.z, to_z-of_z _ _ c.ranges.w) refl
