use Rattle.std.proofs.Common.{◌≡◌, pos, FitsSigned, ◌^◌}
use Rattle.std.specs.Int.{w128, int_div_euclid, int_rem_euclid}
use Rattle.std.proofs.lemmas.Int.{to_z-of_z}
use Rattle.tri_cover.proofs.Widened.{wide_slope_is}
use Rattle.tri_cover.proofs.wide.wide_slope.Goals as goal

pub returns : goal.returns
returns c =
    let z : FitsSigned w128 c.args.z = c.ranges.z in
    let w : pos c.whole_bits-whole.result ≡ int_rem_euclid (int_div_euclid c.args.z (pos c.args.n)) (pos (2 ^ 24)) = simp to_z-of_z at c.whole_bits-whole.ensures.value in
    let r : pos c.rest_part.result ≡ int_rem_euclid c.args.z (pos c.args.n) = simp to_z-of_z at c.rest_part.ensures.value in
    let h = c.next_part-high in
    let l = c.next_part-low in
    wide_slope_is c.args.z c.args.n c.whole_bits-whole.result c.rest_part.result h.result.whole h.result.rest l.result.whole l.result.rest c.joined.result c.requires w r h.ensures.is l.ensures.is l.ensures.below c.joined.ensures
