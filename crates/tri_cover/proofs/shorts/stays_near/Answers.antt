use Rattle.std.proofs.Common.{pos, ◌+ℤ◌, ◌*ℤ◌, FitsSigned, w64, arith}
use Rattle.std.proofs.lemmas.Int.{ints, to_z-of_z}
use Rattle.tri_cover.proofs.Shortened.{near_between}
use Rattle.tri_cover.proofs.shorts.stays_near.Goals as goal

pub returns-then-is_near : goal.returns-then-is_near
returns-then-is_near c t k h =
    let at : FitsSigned w64 c.args.at = c.ranges.at in
    let step : FitsSigned w64 c.args.step = c.ranges.step in
    let product : FitsSigned w64 (c.args.step *ℤ pos 31) = omega (arith, ints, c.requires.step) in
    let sum : FitsSigned w64 (c.args.at +ℤ c.args.step *ℤ pos 31) = omega (arith, ints, c.requires.step, c.requires.at) in
    let first = simp to_z-of_z at (c.is_near.ensures c.if-is_near.true) in
    let last = simp to_z-of_z at (c.is_near-then-is_near.ensures t) in
    near_between c.args.at c.args.step first.0 first.1 last.0 last.1 k h
