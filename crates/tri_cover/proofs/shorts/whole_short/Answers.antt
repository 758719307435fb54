use Rattle.std.proofs.Common.{◌≡◌, ◌^◌, pos, ◌+ℤ◌, ◌*ℤ◌, FitsSigned, w64, ap, sym, ◌∙◌, arith}
use Rattle.std.specs.Int.{int_rem_euclid}
use Rattle.std.proofs.lemmas.Int.{to_z-of_z}
use Rattle.tri_cover.specs.declared.shorts.Short.{Short}
use Rattle.tri_cover.proofs.Slopes.{rest_of}
use Rattle.tri_cover.proofs.Shortened.{is_short, near_first}
use Rattle.tri_cover.proofs.shorts.whole_short.Goals as goal

pub raised-requires-clause-low : goal.raised-requires-clause-low
raised-requires-clause-low c =
    let at : FitsSigned w64 c.args.at = c.ranges.at in
    let step : FitsSigned w64 c.args.step = c.ranges.step in
    simp to_z-of_z (near_first c.args.at c.args.step (simp to_z-of_z at (c.stays_near.ensures c.if-stays_near.true))).0

pub raised-requires-clause-high : goal.raised-requires-clause-high
raised-requires-clause-high c =
    let at : FitsSigned w64 c.args.at = c.ranges.at in
    let step : FitsSigned w64 c.args.step = c.ranges.step in
    simp to_z-of_z (near_first c.args.at c.args.step (simp to_z-of_z at (c.stays_near.ensures c.if-stays_near.true))).1

pub returns-then-stays_near : goal.returns-then-stays_near
returns-then-stays_near c =
    let at : FitsSigned w64 c.args.at = c.ranges.at in
    let step : FitsSigned w64 c.args.step = c.ranges.step in
    let s : Short = record { at = c.raised.result; step = c.low_bits.result } in
    let low : pos c.low_bits.result ≡ int_rem_euclid c.args.step (pos (2 ^ 32)) = simp to_z-of_z at c.low_bits.ensures in
    let rest = rest_of c.args.step (2 ^ 32) (omega arith) in
    let turns : c.args.step ≡ pos c.low_bits.result +ℤ rest.0 *ℤ pos (2 ^ 32) = rest.1 ∙ ap (λ z. z +ℤ rest.0 *ℤ pos (2 ^ 32)) (sym low) in
    let start : pos c.raised.result ≡ c.args.at +ℤ pos (2 ^ 31) = simp to_z-of_z at c.raised.ensures in
    is_short c.args.bound.now s c.args.at c.args.step rest.0 c.requires.at c.requires.step start turns (simp to_z-of_z at (c.stays_near.ensures c.if-stays_near.true))
