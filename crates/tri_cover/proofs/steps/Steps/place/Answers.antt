use Rattle.std.specs.Prelude.{◌-ℤ◌}
use Rattle.tri_cover.specs.Stepped.{HasRoom}
use Rattle.std.proofs.Common.{◌≡◌, true, false, FitsSigned, w32, w64, arith}
use Rattle.std.proofs.lemmas.Int.{ints, to_z-of_z}
use Rattle.tri_cover.proofs.Aligned.{place_is, IsShifted}
use Rattle.tri_cover.proofs.steps.Steps.place.Goals as goal

pub returns-clause-ramp : goal.returns-clause-ramp
returns-clause-ramp c t s x y near covered =
    let shifted : IsShifted c.aligned.result c.in_ok-ramp.field-0 = record { start = c.aligned.ensures.start; right = c.aligned.ensures.right; down = c.aligned.ensures.down } in
    let u : FitsSigned w32 c.args.u = c.ranges.u in
    let v : FitsSigned w32 c.args.v = c.ranges.v in
    let w : FitsSigned w32 c.args.w = c.ranges.w in
    let wu : FitsSigned w64 c.args.u = omega (arith, ints, u) in
    let wv : FitsSigned w64 c.args.v = omega (arith, ints, v) in
    let ww : FitsSigned w64 c.args.w = omega (arith, ints, w) in
    place_is t c.args.u c.args.v c.args.w x y c.aligned.result c.in_ok-ramp.field-0 shifted (simp to_z-of_z at (c.in_ok-ramp.ensures.ramp t s x y near))

pub returns-in_err-ramp-clause-some : goal.returns-in_err-ramp-clause-some
returns-in_err-ramp-clause-some c h =
    let u : FitsSigned w32 c.args.u = c.ranges.u in
    let v : FitsSigned w32 c.args.v = c.ranges.v in
    let w : FitsSigned w32 c.args.w = c.ranges.w in
    let wu : FitsSigned w64 c.args.u = omega (arith, ints, u) in
    let wv : FitsSigned w64 c.args.v = omega (arith, ints, v) in
    let ww : FitsSigned w64 c.args.w = omega (arith, ints, w) in
    let some : HasRoom c.args.self.now (c.args.v -ℤ c.args.u) (c.args.w -ℤ c.args.u) 45 → false ≡ true = simp to_z-of_z at c.in_err-ramp.ensures.some in
    let bad : false ≡ true = some h in
    cc
