use Rattle.std.proofs.Common.{rules, pos, negsuc, ◌≤ℤ◌, FitsSigned, w32, w64, arith}
use Rattle.std.proofs.lemmas.Int.{ints, to_z-of_z}
use Rattle.tri_cover.proofs.averages.mean_place.Goals as goal

pub overflow_cast-result : goal.overflow_cast-result
overflow_cast-result c =
    let fu : FitsSigned w32 c.args.u = c.ranges.u in
    let fv : FitsSigned w32 c.args.v = c.ranges.v in
    let fw : FitsSigned w32 c.args.w = c.ranges.w in
    let low : negsuc 2147483647 ≤ℤ c.mean.result = c.mean.ensures.low (negsuc 2147483647) (omega (arith, ints)) (omega (arith, ints)) (omega (arith, ints)) in
    let high : c.mean.result ≤ℤ pos 2147483647 = c.mean.ensures.high (pos 2147483647) (omega (arith, ints)) (omega (arith, ints)) (omega (arith, ints)) in
    omega (arith, ints)

pub returns : goal.returns
returns c =
    let fu : FitsSigned w32 c.args.u = c.ranges.u in
    let fv : FitsSigned w32 c.args.v = c.ranges.v in
    let fw : FitsSigned w32 c.args.w = c.ranges.w in
    let gu : FitsSigned w64 c.args.u = omega (arith, ints) in
    let gv : FitsSigned w64 c.args.v = omega (arith, ints) in
    let gw : FitsSigned w64 c.args.w = omega (arith, ints) in
    let fr : FitsSigned w64 c.mean.result = search rules in
    let low : negsuc 2147483647 ≤ℤ c.mean.result = c.mean.ensures.low (negsuc 2147483647) (omega (arith, ints)) (omega (arith, ints)) (omega (arith, ints)) in
    let high : c.mean.result ≤ℤ pos 2147483647 = c.mean.ensures.high (pos 2147483647) (omega (arith, ints)) (omega (arith, ints)) (omega (arith, ints)) in
    let gr : FitsSigned w32 c.mean.result = omega (arith, ints, low, high) in
    simp to_z-of_z (simp to_z-of_z at c.mean.ensures.value)
