use Rattle.std.proofs.Common.{◌≡◌, ◌+◌, length, arith, rules, ◌∙◌}
use Rattle.int_raster.proofs.Vectors.{shifted}
use Rattle.int_raster.proofs.pieces.four_depths.Goals as goal

pub returns-clause-back : goal.returns-clause-back
returns-clause-back c j h =
    let long : length c.upper_halves.result ≡ 4 = search rules in
    let upper = c.upper_halves.ensures.back j h in
    shifted 8 c.upper_halves.result long (2 + j) (omega (arith, h)) ∙ omega (arith, upper)
