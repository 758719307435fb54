use Rattle.std.proofs.Common.{rules, ◌≡◌, ◌^◌, pos, ◌+ℤ◌, ◌*ℤ◌, FitsSigned, w64, arith}
use Rattle.std.specs.Int.{int_div_euclid}
use Rattle.std.proofs.lemmas.Int.{ints, to_z-of_z}
use Rattle.tri_cover.proofs.Ends.{floor_at, tame_at}
use Rattle.tri_cover.proofs.bounds.fine_bound.Goals as goal

pub returns-clause-floors : goal.returns-clause-floors
returns-clause-floors c k h =
    let z : FitsSigned w64 c.args.z = c.ranges.z in
    let d : FitsSigned w64 c.args.d = c.ranges.d in
    let e = c.inverse_of-inverse.ensures in
    let f1 : FitsSigned w64 c.scaled.result = search rules in
    let f2 : FitsSigned w64 c.scaled-2.result = search rules in
    let start : c.scaled.result ≡ int_div_euclid (c.args.z *ℤ pos c.inverse_of-inverse.result) (pos (2 ^ 34)) = simp to_z-of_z at c.scaled.ensures.value in
    let step : c.scaled-2.result ≡ int_div_euclid (c.args.d *ℤ pos c.inverse_of-inverse.result) (pos (2 ^ 34)) = simp to_z-of_z at c.scaled-2.ensures.value in
    let sum : FitsSigned w64 (c.scaled.result +ℤ pos 66) = omega (arith, ints, c.scaled.ensures.near) in
    simp to_z-of_z (floor_at c.args.z c.args.d c.scaled.result c.scaled-2.result c.args.n c.inverse_of-inverse.result k c.requires.positive c.requires.small e.low e.high start step c.requires.z c.requires.d h)

pub returns-clause-tame : goal.returns-clause-tame
returns-clause-tame c k h =
    let z : FitsSigned w64 c.args.z = c.ranges.z in
    let d : FitsSigned w64 c.args.d = c.ranges.d in
    let e = c.inverse_of-inverse.ensures in
    let f1 : FitsSigned w64 c.scaled.result = search rules in
    let f2 : FitsSigned w64 c.scaled-2.result = search rules in
    let start : c.scaled.result ≡ int_div_euclid (c.args.z *ℤ pos c.inverse_of-inverse.result) (pos (2 ^ 34)) = simp to_z-of_z at c.scaled.ensures.value in
    let step : c.scaled-2.result ≡ int_div_euclid (c.args.d *ℤ pos c.inverse_of-inverse.result) (pos (2 ^ 34)) = simp to_z-of_z at c.scaled-2.ensures.value in
    let sum : FitsSigned w64 (c.scaled.result +ℤ pos 66) = omega (arith, ints, c.scaled.ensures.near) in
    simp to_z-of_z
    (tame_at c.args.z c.args.d (c.scaled.result +ℤ pos 66 +ℤ c.scaled-2.result *ℤ pos k) c.args.n k c.requires.positive c.requires.z c.requires.d h
    (floor_at c.args.z c.args.d c.scaled.result c.scaled-2.result c.args.n c.inverse_of-inverse.result k c.requires.positive c.requires.small e.low e.high start step c.requires.z c.requires.d h))
