use Rattle.std.proofs.Common.{◌≡◌, ◌<◌, ◌^◌, pos, ◌*ℤ◌, FitsSigned, w64, to_z, arith, lit<}
use Rattle.std.specs.Int.{w128}
use Rattle.std.proofs.lemmas.Int.{ints, to_z-of_z, to_z_pos, fits_signed_mul}
use Rattle.std.proofs.Math.Pow.{pow-lt}
use Rattle.tri_cover.proofs.steps.scaled.Goals as goal

pub overflow_mul-u : goal.overflow_mul-u
overflow_mul-u c =
    let u : FitsSigned w64 c.args.u = c.ranges.u in
    let wide : FitsSigned w128 c.args.u = omega (arith, ints, u) in
    let below : 2 ^ c.args.bits < 2 ^ 63 = pow-lt {i = c.args.bits} {j = 63} (omega (arith, c.requires.bits)) in
    let small : c.power.result < 2 ^ 63 = rw c.power.ensures below in
    let p : to_z w128 c.power.result ≡ pos c.power.result = to_z_pos w128 c.power.result (omega (arith, small)) in
    let fits : FitsSigned w128 (c.args.u *ℤ pos c.power.result) = fits_signed_mul w128 c.args.u (pos c.power.result) (2 ^ 32) (2 ^ 63) (omega (arith, c.requires.u)) (omega (arith, small)) (lit< tt) in
    rw p (simp to_z-of_z fits)
