use Rattle.std.proofs.Common.{List, Option, sym, ◌∙◌, subst, arith}
use Rattle.c_calls.specs.Bands.{AreLent, IsRows}
use Rattle.c_calls.specs.declared.objects.Object.{Object}
use Rattle.c_calls.proofs.Handles.{one_lent, same_values, set_length}
use Rattle.c_calls.proofs.bands.hand_out.Goals as goal

pub returns-then-not-hand_one : goal.returns-then-not-hand_one
returns-then-not-hand_one c =
    let l = c.loop-at in
    let lt = c.loop-at-test.true in
    let long = l.invariant.1 in
    let same = same_values l.at l.bands c.hand_one.new.slot c.index-bands-at.result (omega (arith, lt, long)) (c.hand_one.ensures.lost c.if-not-hand_one.true) in
    subst (λ (vs : List (Option Object)). AreLent l.at vs) (sym same) l.invariant.0

pub loop-at-preserved : goal.loop-at-preserved
loop-at-preserved c =
    let l = c.loop-at in
    let lt = c.loop-at-test.true in
    let long = l.invariant.1 in
    let is : IsRows c.hand_one.new.slot.value = subst IsRows (sym (c.hand_one.ensures.done c.if-not-hand_one.false)) tt in
    (one_lent l.at l.bands c.hand_one.new.slot (omega (arith, lt, long)) is l.invariant.0, set_length l.bands l.at c.hand_one.new.slot ∙ long)
