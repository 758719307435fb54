use Rattle.std.proofs.Common.{◌^◌, ◌*ℤ◌, unsigned_abs, FitsSigned, w64, arith, lit<}
use Rattle.std.proofs.lemmas.Int.{to_z-of_z, fits_signed_mul, unsigned_abs-mul}
use Rattle.std.proofs.lemmas.Nat.{mul-lt}
use Rattle.tri_cover.proofs.numbers.narrow_product.Goals as goal

pub returns-clause-value : goal.returns-clause-value
returns-clause-value c =
    let a : FitsSigned w64 c.args.a = c.ranges.a in
    let b : FitsSigned w64 c.args.b = c.ranges.b in
    let fits : FitsSigned w64 (c.args.a *ℤ c.args.b) = fits_signed_mul w64 c.args.a c.args.b (2 ^ 30) (2 ^ 32) (omega arith) (omega arith) (lit< tt) in
    simp to_z-of_z

pub returns-clause-near : goal.returns-clause-near
returns-clause-near c =
    let a : FitsSigned w64 c.args.a = c.ranges.a in
    let b : FitsSigned w64 c.args.b = c.ranges.b in
    let fits : FitsSigned w64 (c.args.a *ℤ c.args.b) = fits_signed_mul w64 c.args.a c.args.b (2 ^ 30) (2 ^ 32) (omega arith) (omega arith) (lit< tt) in
    simp to_z-of_z (rw unsigned_abs-mul (mul-lt (unsigned_abs c.args.a) (unsigned_abs c.args.b) (2 ^ 30) (2 ^ 32) c.requires.a c.requires.b))
