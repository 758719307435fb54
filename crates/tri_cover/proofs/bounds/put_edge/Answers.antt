use Rattle.std.proofs.Common.{rules, ◌≡◌, ◌<◌, ◌+◌, pos, ◌-ℤ◌, ◌<ℤ◌, unsigned_abs, ◌&&◌, FitsSigned, w64, ap, ◌∙◌, arith}
use Rattle.std.proofs.lemmas.Int.{ints, to_z-of_z}
use Rattle.std.specs.Int.{int_div_euclid}
use Rattle.tri_cover.specs.Bounded.{bound_at, is_let}
use Rattle.tri_cover.specs.Seen.{is_on_side}
use Rattle.tri_cover.specs.Walked.{reached_at}
use Rattle.tri_cover.proofs.Ends.{left_is, right_is, level_is, and_all}
use Rattle.tri_cover.proofs.bounds.put_edge.Goals as goal

pub returns-then-n-eq0-clause-columns : goal.returns-then-n-eq0-clause-columns
returns-then-n-eq0-clause-columns c on k x h b =
    let e = c.args.edge.now in
    let rise : FitsSigned w64 e.rise = search rules in
    let fall : FitsSigned w64 e.fall = search rules in
    let z : FitsSigned w64 c.lowered-z.result = search rules in
    let value : c.lowered-z.result ≡ int_div_euclid (reached_at e c.args.row) (pos 256) = c.lowered-z.ensures in
    let size : c.unsigned_abs-n.result ≡ unsigned_abs e.fall = simp to_z-of_z at c.unsigned_abs-n.ensures.value in
    let level : e.fall ≡ pos 0 = omega (arith, ints, size) in
    and_all (is_let c.args.bounds.now k x) (is_on_side e (c.args.row + k) x) (level_is e c.args.row k x c.lowered-z.result level value (simp to_z-of_z at (c.stays.ensures on k h)))

pub returns-then-edge-gt0-clause-columns : goal.returns-then-edge-gt0-clause-columns
returns-then-edge-gt0-clause-columns c =
    let e = c.args.edge.now in
    let rise : FitsSigned w64 e.rise = search rules in
    let fall : FitsSigned w64 e.fall = search rules in
    let z : FitsSigned w64 c.lowered-z.result = search rules in
    let value : c.lowered-z.result ≡ int_div_euclid (reached_at e c.args.row) (pos 256) = c.lowered-z.ensures in
    let size : c.unsigned_abs-n.result ≡ unsigned_abs e.fall = simp to_z-of_z at c.unsigned_abs-n.ensures.value in
    let above : pos 0 <ℤ e.fall = omega (arith, ints) in
    let n : e.fall ≡ pos c.unsigned_abs-n.result = omega (arith, ints, size, above) in
    let some : 0 < c.unsigned_abs-n.result = omega (arith, ints, size, above) in
    (λ on k x h b. c.put_right.ensures.columns on k x b ∙ ap (λ v. is_let c.args.bounds.now k x && v)
    (right_is e c.args.row k x c.unsigned_abs-n.result c.lowered-z.result (bound_at c.bound_by-bound.result k) some n value (simp to_z-of_z at (c.bound_by-bound.ensures.floors k (omega (arith, h, c.requires.few))))))

pub returns-else-edge-gt0-clause-columns : goal.returns-else-edge-gt0-clause-columns
returns-else-edge-gt0-clause-columns c =
    let e = c.args.edge.now in
    let rise : FitsSigned w64 e.rise = search rules in
    let fall : FitsSigned w64 e.fall = search rules in
    let z : FitsSigned w64 c.lowered-z.result = search rules in
    let value : c.lowered-z.result ≡ int_div_euclid (reached_at e c.args.row) (pos 256) = c.lowered-z.ensures in
    let size : c.unsigned_abs-n.result ≡ unsigned_abs e.fall = simp to_z-of_z at c.unsigned_abs-n.ensures.value in
    let some : 0 < c.unsigned_abs-n.result = omega arith in
    let n : pos 0 -ℤ e.fall ≡ pos c.unsigned_abs-n.result = omega (arith, ints, size, some) in
    (λ on k x h b. c.put_left.ensures.columns on k x b ∙ ap (λ v. is_let c.args.bounds.now k x && v)
    (left_is e c.args.row k x c.unsigned_abs-n.result c.lowered-z.result (bound_at c.bound_by-bound.result k) some n value (simp to_z-of_z at (c.bound_by-bound.ensures.floors k (omega (arith, h, c.requires.few))))))
