use Rattle.std.proofs.Common.{pos, ◌≤ℤ◌, arith}
use Rattle.std.proofs.lemmas.Int.{ints}
use Rattle.tri_cover.proofs.averages.mean_channel.Goals as goal

pub overflow_cast-result : goal.overflow_cast-result
overflow_cast-result c =
    let low : pos 0 ≤ℤ c.mean.result = c.mean.ensures.low (pos 0) (omega (arith, ints)) (omega (arith, ints)) (omega (arith, ints)) in
    let high : c.mean.result ≤ℤ pos 255 = c.mean.ensures.high (pos 255) (omega (arith, ints)) (omega (arith, ints)) (omega (arith, ints)) in
    omega (arith, ints)
