use Rattle.std.proofs.Common.{rules, ◌≡◌, ◌^◌, pos, ◌*ℤ◌, FitsSigned, w64, arith}
use Rattle.std.specs.Int.{w128, int_div_euclid}
use Rattle.std.proofs.lemmas.Int.{ints, to_z-of_z}
use Rattle.tri_cover.proofs.Ends.{scaled_near}
use Rattle.tri_cover.proofs.bounds.scaled.Goals as goal

pub returns-clause-value : goal.returns-clause-value
returns-clause-value c =
    let z : FitsSigned w64 c.args.z = c.ranges.z in
    let r : FitsSigned w128 c.shifted.result = search rules in
    let value : c.shifted.result ≡ int_div_euclid (c.args.z *ℤ pos c.args.inverse) (pos (2 ^ 34)) = simp to_z-of_z at c.shifted.ensures in
    let near = scaled_near c.args.z c.shifted.result c.args.inverse c.requires.z c.requires.inverse value in
    let fits : FitsSigned w64 c.shifted.result = omega (arith, ints, near) in
    simp to_z-of_z value

pub returns-clause-near : goal.returns-clause-near
returns-clause-near c =
    let z : FitsSigned w64 c.args.z = c.ranges.z in
    let r : FitsSigned w128 c.shifted.result = search rules in
    let value : c.shifted.result ≡ int_div_euclid (c.args.z *ℤ pos c.args.inverse) (pos (2 ^ 34)) = simp to_z-of_z at c.shifted.ensures in
    let near = scaled_near c.args.z c.shifted.result c.args.inverse c.requires.z c.requires.inverse value in
    let fits : FitsSigned w64 c.shifted.result = omega (arith, ints, near) in
    simp to_z-of_z near
