use Rattle.std.proofs.Common.{refl}
use Rattle.std.proofs.lemmas.Int.{to_z-of_z}
use Rattle.gfx_query.proofs.placing.transform.Goals as goal

pub returns : goal.returns
returns c = rw (to_z-of_z _ _ c.ranges.a, to_z-of_z _ _ c.ranges.b, to_z-of_z _ _ c.ranges.c, to_z-of_z _ _ c.ranges.d, to_z-of_z _ _ c.ranges.e, to_z-of_z _ _ c.ranges.f, to_z-of_z _ _ c.ranges.g, to_z-of_z _ _ c.ranges.h, to_z-of_z _ _ c.ranges.i, to_z-of_z _ _ c.ranges.j, to_z-of_z _ _ c.ranges.k, to_z-of_z _ _ c.ranges.l) refl
