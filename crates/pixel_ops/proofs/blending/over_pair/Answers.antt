use Rattle.std.proofs.Common.{arith}
use Rattle.pixel_ops.proofs.blending.over_pair.Goals as goal

pub returns : goal.returns
returns c a b s d pa pb ps pd e h =
    omega (arith, c.multiply_pair.ensures.products a b pa pb e, c.multiply_pair-2.ensures.products s d ps pd h)
