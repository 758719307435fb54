use Rattle.std.proofs.Common.{◌≡◌, ◌^◌, pos, ◌*ℤ◌, FitsSigned, w64}
use Rattle.std.specs.Int.{int_rem_euclid}
use Rattle.std.proofs.lemmas.Int.{to_z-of_z}
use Rattle.tri_cover.proofs.Raised.{start_raised}
use Rattle.tri_cover.proofs.steps.raised.Goals as goal

pub returns-clause-start : goal.returns-clause-start
returns-clause-start c =
    let u : FitsSigned w64 c.args.u = c.ranges.u in
    let low : pos c.scaled.result ≡ int_rem_euclid (c.args.u *ℤ pos (2 ^ c.args.bits)) (pos (2 ^ 64)) = simp to_z-of_z at c.scaled.ensures in
    start_raised c.args.ramp.start c.scaled.result (c.args.u *ℤ pos (2 ^ c.args.bits)) low
