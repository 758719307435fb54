use Rattle.std.proofs.Common.{◌≡◌, ◌≤◌, ◌^◌, ◌-◌, pos, ◌*ℤ◌, unsigned_abs, FitsSigned, w64, to_z, arith}
use Rattle.std.proofs.lemmas.Int.{ints, to_z-of_z, to_z_pos}
use Rattle.tri_cover.proofs.Slopes.{filled_near}
use Rattle.tri_cover.proofs.inverses.filled.Goals as goal

pub overflow_cast-result : goal.overflow_cast-result
overflow_cast-result c = omega (arith, c.small_power.ensures.near)

pub overflow_mul-result : goal.overflow_mul-result
overflow_mul-result c =
    let z : FitsSigned w64 c.args.z = c.ranges.z in
    let p : to_z w64 c.small_power.result ≡ pos c.small_power.result = to_z_pos w64 c.small_power.result (omega (arith, c.small_power.ensures.near)) in
    let near : unsigned_abs (c.args.z *ℤ pos (2 ^ (62 - c.args.bits))) ≤ 2 ^ 62 = filled_near c.args.z c.args.bits c.requires.bits c.requires.z in
    let fits : FitsSigned w64 (c.args.z *ℤ pos (2 ^ (62 - c.args.bits))) = omega (arith, ints, near) in
    rw (p, c.small_power.ensures.value) (simp to_z-of_z fits)

pub returns-clause-value : goal.returns-clause-value
returns-clause-value c =
    let z : FitsSigned w64 c.args.z = c.ranges.z in
    let p : to_z w64 c.small_power.result ≡ pos c.small_power.result = to_z_pos w64 c.small_power.result (omega (arith, c.small_power.ensures.near)) in
    let near : unsigned_abs (c.args.z *ℤ pos (2 ^ (62 - c.args.bits))) ≤ 2 ^ 62 = filled_near c.args.z c.args.bits c.requires.bits c.requires.z in
    let fits : FitsSigned w64 (c.args.z *ℤ pos (2 ^ (62 - c.args.bits))) = omega (arith, ints, near) in
    rw (p, c.small_power.ensures.value) (simp to_z-of_z)

pub returns-clause-near : goal.returns-clause-near
returns-clause-near c =
    let z : FitsSigned w64 c.args.z = c.ranges.z in
    let p : to_z w64 c.small_power.result ≡ pos c.small_power.result = to_z_pos w64 c.small_power.result (omega (arith, c.small_power.ensures.near)) in
    let near : unsigned_abs (c.args.z *ℤ pos (2 ^ (62 - c.args.bits))) ≤ 2 ^ 62 = filled_near c.args.z c.args.bits c.requires.bits c.requires.z in
    let fits : FitsSigned w64 (c.args.z *ℤ pos (2 ^ (62 - c.args.bits))) = omega (arith, ints, near) in
    rw (p, c.small_power.ensures.value) (simp to_z-of_z near)
