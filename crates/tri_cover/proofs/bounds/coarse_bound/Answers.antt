use Rattle.std.proofs.Common.{rules, ◌≡◌, ◌^◌, pos, ◌+ℤ◌, ◌*ℤ◌, FitsSigned, w64, arith}
use Rattle.std.specs.Int.{int_div_euclid}
use Rattle.std.proofs.lemmas.Int.{ints, to_z-of_z}
use Rattle.tri_cover.proofs.Ends.{coarse_floor_at, tame_at}
use Rattle.tri_cover.proofs.bounds.coarse_bound.Goals as goal

pub returns-clause-floors : goal.returns-clause-floors
returns-clause-floors c k h =
    let z : FitsSigned w64 c.args.z = c.ranges.z in
    let d : FitsSigned w64 c.args.d = c.ranges.d in
    let e = c.inverse_of-inverse.ensures in
    let f1 : FitsSigned w64 c.coarse.result = search rules in
    let f2 : FitsSigned w64 c.coarse-2.result = search rules in
    let start : c.coarse.result ≡ int_div_euclid (int_div_euclid (c.args.z *ℤ pos c.inverse_of-inverse.result) (pos (2 ^ 34))) (pos 256) = simp to_z-of_z at c.coarse.ensures.value in
    let step : c.coarse-2.result ≡ int_div_euclid (int_div_euclid (c.args.d *ℤ pos c.inverse_of-inverse.result) (pos (2 ^ 34))) (pos 256) = simp to_z-of_z at c.coarse-2.ensures.value in
    let sum : FitsSigned w64 (c.coarse.result +ℤ pos 66) = omega (arith, ints, c.coarse.ensures.near) in
    let all : FitsSigned w64 ((c.coarse.result +ℤ pos 66) *ℤ pos 256) = omega (arith, ints, c.coarse.ensures.near) in
    let steps : FitsSigned w64 (c.coarse-2.result *ℤ pos 256) = omega (arith, ints, c.coarse-2.ensures.near) in
    simp to_z-of_z (coarse_floor_at c.args.z c.args.d c.coarse.result c.coarse-2.result c.args.n c.inverse_of-inverse.result k c.requires.positive c.requires.small e.low e.high start step c.requires.z c.requires.d h)

pub returns-clause-tame : goal.returns-clause-tame
returns-clause-tame c k h =
    let z : FitsSigned w64 c.args.z = c.ranges.z in
    let d : FitsSigned w64 c.args.d = c.ranges.d in
    let e = c.inverse_of-inverse.ensures in
    let f1 : FitsSigned w64 c.coarse.result = search rules in
    let f2 : FitsSigned w64 c.coarse-2.result = search rules in
    let start : c.coarse.result ≡ int_div_euclid (int_div_euclid (c.args.z *ℤ pos c.inverse_of-inverse.result) (pos (2 ^ 34))) (pos 256) = simp to_z-of_z at c.coarse.ensures.value in
    let step : c.coarse-2.result ≡ int_div_euclid (int_div_euclid (c.args.d *ℤ pos c.inverse_of-inverse.result) (pos (2 ^ 34))) (pos 256) = simp to_z-of_z at c.coarse-2.ensures.value in
    let sum : FitsSigned w64 (c.coarse.result +ℤ pos 66) = omega (arith, ints, c.coarse.ensures.near) in
    let all : FitsSigned w64 ((c.coarse.result +ℤ pos 66) *ℤ pos 256) = omega (arith, ints, c.coarse.ensures.near) in
    let steps : FitsSigned w64 (c.coarse-2.result *ℤ pos 256) = omega (arith, ints, c.coarse-2.ensures.near) in
    simp to_z-of_z
    (tame_at c.args.z c.args.d ((c.coarse.result +ℤ pos 66) *ℤ pos 256 +ℤ (c.coarse-2.result *ℤ pos 256) *ℤ pos k) c.args.n k c.requires.positive c.requires.z c.requires.d h
    (coarse_floor_at c.args.z c.args.d c.coarse.result c.coarse-2.result c.args.n c.inverse_of-inverse.result k c.requires.positive c.requires.small e.low e.high start step c.requires.z c.requires.d h))
