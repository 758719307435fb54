use Rattle.std.proofs.Common.{◌≡◌, ◌-◌, pos, ◌+ℤ◌, ◌-ℤ◌, ◌*ℤ◌, ◌≤ℤ◌, int_le, IsTrue, FitsSigned, w64, to_z, arith}
use Rattle.std.proofs.lemmas.Int.{ints, to_z-of_z, to_z_pos}
use Rattle.tri_cover.proofs.Ends.{stays_between, end_of_level, level_moved}
use Rattle.tri_cover.proofs.bounds.stays.Goals as goal

pub returns-then-z-ge0 : goal.returns-then-z-ge0
returns-then-z-ge0 c t k h =
    let z : FitsSigned w64 c.args.z = c.ranges.z in
    let d : FitsSigned w64 c.args.d = c.ranges.d in
    let count : to_z w64 c.args.count ≡ pos c.args.count = to_z_pos w64 c.args.count (omega (arith, c.requires.few)) in
    let less : FitsSigned w64 (pos c.args.count -ℤ pos 1) = omega (arith, ints, c.requires.few) in
    let near = level_moved c.args.d c.args.count c.requires.d c.requires.few in
    let product : FitsSigned w64 (c.args.d *ℤ (pos c.args.count -ℤ pos 1)) = omega (arith, ints, near) in
    let sum : FitsSigned w64 (c.args.z +ℤ c.args.d *ℤ (pos c.args.count -ℤ pos 1)) = omega (arith, ints, near, c.requires.z) in
    let last : IsTrue (int_le (pos 0) (c.args.z +ℤ c.args.d *ℤ (pos c.args.count -ℤ pos 1))) = simp to_z-of_z at (rw count at t) in
    let first : pos 0 ≤ℤ c.args.z = omega (arith, ints) in
    stays_between c.args.z c.args.d (c.args.count - 1) k first (end_of_level c.args.z c.args.d c.args.count (omega (arith, h)) last) (omega (arith, h))
