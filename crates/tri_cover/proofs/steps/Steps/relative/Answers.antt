use Rattle.std.proofs.Common.{◌≡◌, pos, ◌^◌, FitsSigned, w64, pow_pos}
use Rattle.std.proofs.lemmas.Int.{to_z-of_z}
use Rattle.tri_cover.proofs.Raised.{zero_ramp}
use Rattle.tri_cover.proofs.steps.Steps.relative.Goals as goal

pub returns-then-is_zero-2-clause-ramp : goal.returns-then-is_zero-2-clause-ramp
returns-then-is_zero-2-clause-ramp c t s x y near =
    let fv : FitsSigned w64 c.args.v = c.ranges.v in
    let fw : FitsSigned w64 c.args.w = c.ranges.w in
    let v : c.args.v ≡ pos 0 = simp to_z-of_z at (c.is_zero.ensures c.if-is_zero.true) in
    let w : c.args.w ≡ pos 0 = simp to_z-of_z at (c.is_zero-then-is_zero.ensures c.if-is_zero-2.true) in
    let i = c.args.self.now.inverse in
    rw (v, w) (zero_ramp t i.divisor (2 ^ c.args.bits) x y s.divisor i.positive (pow_pos c.args.bits))

pub returns-clause-ramp : goal.returns-clause-ramp
returns-clause-ramp c t s x y near =
    let fv : FitsSigned w64 c.args.v = c.ranges.v in
    let fw : FitsSigned w64 c.args.w = c.ranges.w in
    simp to_z-of_z at (c.in_ok-ramp.ensures.ramp t s x y near)
