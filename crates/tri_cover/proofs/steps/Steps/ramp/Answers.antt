use Rattle.tri_cover.specs.Stepped.{HasRoom}
use Rattle.std.proofs.Common.{true, false, ◌≡◌, ℤ, pos, ◌^◌, ◌+ℤ◌, ◌-ℤ◌, ◌*ℤ◌, FitsSigned, w64, arith}
use Rattle.std.proofs.lemmas.Int.{ints, to_z-of_z}
use Rattle.tri_cover.specs.Slope.{IsRamp}
use Rattle.tri_cover.proofs.Raised.{raised_ramp}
use Rattle.tri_cover.proofs.steps.Steps.ramp.Goals as goal

pub returns-clause-ramp : goal.returns-clause-ramp
returns-clause-ramp c t s x y near =
    let i = c.args.self.now.inverse in
    let fu : FitsSigned w64 c.args.u = c.ranges.u in
    let fv : FitsSigned w64 c.args.v = c.ranges.v in
    let fw : FitsSigned w64 c.args.w = c.ranges.w in
    let dv : FitsSigned w64 (c.args.v -ℤ c.args.u) = omega (arith, ints, c.requires.v) in
    let dw : FitsSigned w64 (c.args.w -ℤ c.args.u) = omega (arith, ints, c.requires.w) in
    let base : IsRamp c.in_ok-ramp.ramp t (pos 0) (c.args.v -ℤ c.args.u) (c.args.w -ℤ c.args.u) (2 ^ c.args.bits) x y = simp to_z-of_z at (c.in_ok-ramp.ensures.ramp t s x y near) in
    let start : (k : ℤ) × (pos c.raised.result.start ≡ pos c.in_ok-ramp.ramp.start +ℤ c.args.u *ℤ pos (2 ^ c.args.bits) +ℤ k *ℤ pos (2 ^ 64)) = simp to_z-of_z at c.raised.ensures.start in
    raised_ramp t c.args.u c.args.v c.args.w i.divisor (2 ^ c.args.bits) x y c.raised.result c.in_ok-ramp.ramp start.0 s.divisor i.positive start.1 c.raised.ensures.right c.raised.ensures.down base

pub returns-in_err-ramp-clause-some : goal.returns-in_err-ramp-clause-some
returns-in_err-ramp-clause-some c h =
    let fu : FitsSigned w64 c.args.u = c.ranges.u in
    let fv : FitsSigned w64 c.args.v = c.ranges.v in
    let fw : FitsSigned w64 c.args.w = c.ranges.w in
    let dv : FitsSigned w64 (c.args.v -ℤ c.args.u) = omega (arith, ints, c.requires.v) in
    let dw : FitsSigned w64 (c.args.w -ℤ c.args.u) = omega (arith, ints, c.requires.w) in
    let some : HasRoom c.args.self.now (c.args.v -ℤ c.args.u) (c.args.w -ℤ c.args.u) c.args.bits → false ≡ true = simp to_z-of_z at c.in_err-ramp.ensures.some in
    let bad : false ≡ true = some h in
    cc
