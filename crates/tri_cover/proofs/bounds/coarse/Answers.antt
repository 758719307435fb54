use Rattle.std.proofs.Common.{rules, ◌≡◌, ◌^◌, pos, ◌*ℤ◌, FitsSigned, w64, ap, ◌∙◌, arith}
use Rattle.std.specs.Int.{int_div_euclid}
use Rattle.std.proofs.lemmas.Int.{ints, to_z-of_z}
use Rattle.tri_cover.proofs.Fixed.{floor_is}
use Rattle.tri_cover.proofs.bounds.coarse.Goals as goal

pub returns-clause-value : goal.returns-clause-value
returns-clause-value c =
    let z : FitsSigned w64 c.args.z = c.ranges.z in
    let r : FitsSigned w64 c.scaled.result = search rules in
    let value : c.scaled.result ≡ int_div_euclid (c.args.z *ℤ pos c.args.inverse) (pos (2 ^ 34)) = simp to_z-of_z at c.scaled.ensures.value in
    let floor : c.floor_by_256.result ≡ int_div_euclid c.scaled.result (pos 256) = simp to_z-of_z at c.floor_by_256.ensures.value in
    let f : FitsSigned w64 c.floor_by_256.result = search rules in
    simp to_z-of_z (floor ∙ ap (λ n. int_div_euclid n (pos 256)) value)

pub returns-clause-near : goal.returns-clause-near
returns-clause-near c =
    let r : FitsSigned w64 c.scaled.result = search rules in
    let floor : c.floor_by_256.result ≡ int_div_euclid c.scaled.result (pos 256) = simp to_z-of_z at c.floor_by_256.ensures.value in
    let f : FitsSigned w64 c.floor_by_256.result = search rules in
    let h = floor_is c.scaled.result 256 (omega arith) in
    simp to_z-of_z (omega (arith, ints, floor, h.is, h.below, c.scaled.ensures.near))
