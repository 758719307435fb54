use Rattle.std.proofs.Common.{arith, ◌∙◌}
use Rattle.int_raster.proofs.Carried.{bits_more}
use Rattle.int_raster.proofs.textured.bits_on.Goals as goal

pub returns : goal.returns
returns c p x y at by exact =
    let on = c.stepped_on.ensures in
    record {
      u = on 0 (omega arith) ∙ bits_more p.u x y _ _ at.u by.u exact.u;
      v = on 1 (omega arith) ∙ bits_more p.v x y _ _ at.v by.v exact.v;
    }
