use Rattle.std.proofs.Common.{rules, FitsSigned, w64, pos, ◌≤ℤ◌, arith}
use Rattle.std.proofs.lemmas.Int.{ints, to_z-of_z}
use Rattle.tri_cover.proofs.averages.mean_depth.Goals as goal

pub overflow_cast-result : goal.overflow_cast-result
overflow_cast-result c =
    let low : pos 0 ≤ℤ c.mean.result = c.mean.ensures.low (pos 0) (omega (arith, ints)) (omega (arith, ints)) (omega (arith, ints)) in
    let high : c.mean.result ≤ℤ pos 4294967295 = c.mean.ensures.high (pos 4294967295) (omega (arith, ints)) (omega (arith, ints)) (omega (arith, ints)) in
    omega (arith, ints)

pub returns-clause-deep : goal.returns-clause-deep
returns-clause-deep c =
    let f : FitsSigned w64 c.mean.result = search rules in
    let low : pos 0 ≤ℤ c.mean.result = c.mean.ensures.low (pos 0) (omega (arith, ints)) (omega (arith, ints)) (omega (arith, ints)) in
    let high : c.mean.result ≤ℤ pos 16777215 = c.mean.ensures.high (pos 16777215) (omega (arith, ints)) (omega (arith, ints)) (omega (arith, ints)) in
    simp to_z-of_z (omega (arith, ints, low, high))
