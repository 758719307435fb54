use Rattle.std.proofs.Common.{rules, ◌≡◌, ◌&&◌, pos, nat_le, nat_lt, FitsSigned, w64, to_z, ◌∙◌, arith}
use Rattle.std.specs.Int.{int_max, int_min}
use Rattle.std.proofs.lemmas.Int.{to_z-of_z, to_z_pos}
use Rattle.tri_cover.specs.Columns.{is_between}
use Rattle.tri_cover.proofs.Ends.{between_is}
use Rattle.tri_cover.proofs.bounds.between.Goals as goal

pub returns-clause-columns : goal.returns-clause-columns
returns-clause-columns c x =
    let a1 : FitsSigned w64 c.args.left = c.ranges.left in
    let a2 : FitsSigned w64 c.args.other_left = c.ranges.other_left in
    let a3 : FitsSigned w64 c.args.right = c.ranges.right in
    let a4 : FitsSigned w64 c.args.other_right = c.ranges.other_right in
    let l : FitsSigned w64 c.left_end.result = search rules in
    let r : FitsSigned w64 c.right_end.result = search rules in
    let f : FitsSigned w64 c.max-from.result = search rules in
    let t : FitsSigned w64 c.min-to.result = search rules in
    let first : to_z w64 c.args.first ≡ pos c.args.first = to_z_pos w64 c.args.first (omega arith) in
    let after : to_z w64 c.args.after ≡ pos c.args.after = to_z_pos w64 c.args.after (omega arith) in
    let from : c.max-from.result ≡ int_max c.left_end.result (pos c.args.first) = simp to_z-of_z at (rw first at c.max-from.ensures.value) in
    let to : c.min-to.result ≡ int_min c.right_end.result (pos c.args.after) = simp to_z-of_z at (rw after at c.min-to.ensures.value) in
    let ends = simp to_z-of_z at (c.ends.ensures.columns x) in
    let left = simp to_z-of_z at (c.left_end.ensures.columns x) in
    let right = simp to_z-of_z at (c.right_end.ensures.columns x) in
    ends ∙ (λ i. is_between (from i) (to i) x) ∙ between_is c.args.first c.args.after x c.left_end.result c.right_end.result
    ∙ (λ i. (nat_le c.args.first x && nat_lt x c.args.after) && (left i && right i))
