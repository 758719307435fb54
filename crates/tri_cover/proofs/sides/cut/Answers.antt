use Rattle.std.proofs.Common.{rules, ◌≡◌, pos, ◌+ℤ◌, ◌-ℤ◌, ◌*ℤ◌, ◌<ℤ◌, ◌≤ℤ◌, FitsSigned, w64, ap, ◌∙◌, arith}
use Rattle.std.specs.Int.{int_div_euclid, int_min, int_max}
use Rattle.std.proofs.lemmas.Int.{ints, to_z-of_z}
use Rattle.tri_cover.specs.Walked.{reached_at}
use Rattle.tri_cover.proofs.Narrow.{narrow_right, narrow_left, narrow_level, narrow_none}
use Rattle.tri_cover.proofs.Walks.{floor_of_divided, level_divided}
use Rattle.tri_cover.proofs.sides.cut.Goals as goal

pub returns-then-edge-gt0-clause-columns : goal.returns-then-edge-gt0-clause-columns
returns-then-edge-gt0-clause-columns c x =
    let s = c.args.side.now in
    let e = c.args.edge.now in
    let reach = reached_at e c.args.row in
    let first : FitsSigned w64 c.args.first = c.ranges.first in
    let after : FitsSigned w64 c.args.after = c.ranges.after in
    let fall : FitsSigned w64 e.fall = search rules in
    let w : FitsSigned w64 c.whole_of-whole.result = search rules in
    let result : FitsSigned w64 c.min.result = search rules in
    let above : pos 0 <ℤ e.fall = omega (arith, ints) in
    let next : FitsSigned w64 (c.whole_of-whole.result +ℤ pos 1) = omega (arith, ints, c.whole_of-whole.ensures.near) in
    let whole : c.whole_of-whole.result ≡ int_div_euclid reach (pos 256 *ℤ e.fall) = c.whole_of-whole.ensures.value ∙ floor_of_divided s.here reach s.divisor c.requires.side.here ∙ ap (int_div_euclid reach) (c.requires.side.divisor.right above) in
    let m : c.min.result ≡ int_min c.args.after (c.whole_of-whole.result +ℤ pos 1) = simp to_z-of_z at c.min.ensures.value in
    simp to_z-of_z (rw (m, whole) (narrow_right c.args.first c.args.after reach e.fall x above))

pub returns-then-edge-lt0-clause-columns : goal.returns-then-edge-lt0-clause-columns
returns-then-edge-lt0-clause-columns c x =
    let s = c.args.side.now in
    let e = c.args.edge.now in
    let reach = reached_at e c.args.row in
    let first : FitsSigned w64 c.args.first = c.ranges.first in
    let after : FitsSigned w64 c.args.after = c.ranges.after in
    let fall : FitsSigned w64 e.fall = search rules in
    let w : FitsSigned w64 c.whole_of-whole.result = search rules in
    let result : FitsSigned w64 c.max.result = search rules in
    let below : e.fall <ℤ pos 0 = omega (arith, ints) in
    let less : FitsSigned w64 (pos 0 -ℤ c.whole_of-whole.result) = omega (arith, ints, c.whole_of-whole.ensures.near) in
    let whole : c.whole_of-whole.result ≡ int_div_euclid reach (pos 256 *ℤ (pos 0 -ℤ e.fall)) = c.whole_of-whole.ensures.value ∙ floor_of_divided s.here reach s.divisor c.requires.side.here ∙ ap (int_div_euclid reach) (c.requires.side.divisor.left below) in
    let m : c.max.result ≡ int_max c.args.first (pos 0 -ℤ c.whole_of-whole.result) = simp to_z-of_z at c.max.ensures.value in
    simp to_z-of_z (rw (m, whole) (narrow_left c.args.first c.args.after reach e.fall x below))

pub returns-then-whole-ge0-clause-columns : goal.returns-then-whole-ge0-clause-columns
returns-then-whole-ge0-clause-columns c x =
    let s = c.args.side.now in
    let e = c.args.edge.now in
    let reach = reached_at e c.args.row in
    let first : FitsSigned w64 c.args.first = c.ranges.first in
    let after : FitsSigned w64 c.args.after = c.ranges.after in
    let fall : FitsSigned w64 e.fall = search rules in
    let level : e.fall ≡ pos 0 = omega (arith, ints) in
    let whole : c.whole_of-whole.result ≡ reach = c.whole_of-whole.ensures.value ∙ level_divided s.here reach s.divisor c.requires.side.here (c.requires.side.divisor.level level) in
    let low : pos 0 ≤ℤ c.whole_of-whole.result = omega (arith, ints) in
    simp to_z-of_z (narrow_level c.args.first c.args.after reach e.fall x level (rw whole at low))

pub returns-else-whole-ge0-clause-columns : goal.returns-else-whole-ge0-clause-columns
returns-else-whole-ge0-clause-columns c x =
    let s = c.args.side.now in
    let e = c.args.edge.now in
    let reach = reached_at e c.args.row in
    let first : FitsSigned w64 c.args.first = c.ranges.first in
    let after : FitsSigned w64 c.args.after = c.ranges.after in
    let fall : FitsSigned w64 e.fall = search rules in
    let level : e.fall ≡ pos 0 = omega (arith, ints) in
    let whole : c.whole_of-whole.result ≡ reach = c.whole_of-whole.ensures.value ∙ level_divided s.here reach s.divisor c.requires.side.here (c.requires.side.divisor.level level) in
    let low : c.whole_of-whole.result <ℤ pos 0 = omega (arith, ints) in
    simp to_z-of_z (narrow_none c.args.first c.args.after reach e.fall x level (rw whole at low))
