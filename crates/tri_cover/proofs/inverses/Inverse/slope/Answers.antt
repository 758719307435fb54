use Rattle.std.proofs.Common.{rules, ◌≡◌, ◌-◌, ◌≤◌, ◌^◌, unsigned_abs, pos, ◌*ℤ◌, FitsSigned, w64, ap, ◌∙◌}
use Rattle.std.specs.Int.{w128, int_div_euclid, int_rem_euclid}
use Rattle.std.proofs.lemmas.Int.{to_z-of_z}
use Rattle.tri_cover.proofs.Slopes.{filled_slope}
use Rattle.tri_cover.proofs.inverses.Inverse.slope.Goals as goal

pub returns : goal.returns
returns c =
    let i = c.args.self.now in
    let f1 : FitsSigned w64 c.args.z = c.ranges.z in
    let f2 : FitsSigned w64 c.filled-full.result = search rules in
    let f3 : FitsSigned w128 c.shifted.result = search rules in
    let full : c.filled-full.result ≡ c.args.z *ℤ pos (2 ^ (62 - (i.scale - c.args.bits))) = simp to_z-of_z at c.filled-full.ensures.value in
    let near : unsigned_abs c.filled-full.result ≤ 2 ^ 62 = c.filled-full.ensures.near in
    let product : c.shifted.result ≡ int_div_euclid (c.filled-full.result *ℤ pos i.inverse) (pos (2 ^ 62)) = simp to_z-of_z at c.shifted.ensures in
    let low : pos c.low_bits.result ≡ int_rem_euclid c.shifted.result (pos (2 ^ 64)) = simp to_z-of_z at c.low_bits.ensures in
    filled_slope c.args.z c.filled-full.result c.low_bits.result i.divisor i.inverse c.args.bits i.scale i.few c.requires.bits c.requires.room full i.positive i.low i.high near (low ∙ ap (λ w. int_rem_euclid w (pos (2 ^ 64))) product)
