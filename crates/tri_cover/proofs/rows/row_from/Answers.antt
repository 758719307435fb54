use Rattle.std.proofs.Common.{rules, ◌≡◌, pos, ◌+ℤ◌, FitsSigned, w32, arith}
use Rattle.std.specs.Int.{int_div_euclid}
use Rattle.std.proofs.lemmas.Int.{ints, to_z-of_z}
use Rattle.tri_cover.proofs.Means.{row_not_behind}
use Rattle.tri_cover.proofs.rows.row_from.Goals as goal

pub returns : goal.returns
returns c y h =
    let result : FitsSigned w32 c.div_euclid.result = search rules in
    let top : FitsSigned w32 c.args.top = c.ranges.top in
    let sum : FitsSigned w32 (c.args.top +ℤ pos 127) = omega (arith, ints) in
    let d : c.div_euclid.result ≡ int_div_euclid (c.args.top +ℤ pos 127) (pos 256) = simp to_z-of_z at c.div_euclid.ensures in
    simp to_z-of_z (rw d (row_not_behind c.args.top y h))
