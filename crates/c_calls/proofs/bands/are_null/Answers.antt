use Rattle.std.proofs.Common.{◌+◌, List, Option, take, sym, ◌∙◌, subst, arith}
use Rattle.std.specs.List.{AllByRecursion}
use Rattle.c_calls.specs.Bands.{IsNull, AreNull}
use Rattle.c_calls.specs.declared.objects.Object.{Object}
use Rattle.c_calls.proofs.Handles.{null_at, null_more, same_length, same_values, is_taken}
use Rattle.c_calls.proofs.bands.are_null.Goals as goal

pub returns-then-not-is_null-clause-same : goal.returns-then-not-is_null-clause-same
returns-then-not-is_null-clause-same c =
    let l = c.loop-at in
    let lt = c.loop-at-test.true in
    let long = same_length l.bands c.args.bands.now l.invariant.0 in
    same_values l.at l.bands c.is_null.new.slot c.index-bands-at.result (omega (arith, lt, long)) c.is_null.ensures.same ∙ l.invariant.0

pub returns-then-not-is_null-clause-no : goal.returns-then-not-is_null-clause-no
returns-then-not-is_null-clause-no c = λ _ null.
    let l = c.loop-at in
    let lt = c.loop-at-test.true in
    let long = same_length l.bands c.args.bands.now l.invariant.0 in
    let t = c.is_null.ensures.no c.if-not-is_null.true in
    is_taken _ t.0 (null_at l.at l.bands c.index-bands-at.result (omega (arith, lt, long)) (subst AreNull (sym l.invariant.0) null)) t.1

pub loop-at-preserved : goal.loop-at-preserved
loop-at-preserved c =
    let l = c.loop-at in
    let lt = c.loop-at-test.true in
    let long = same_length l.bands c.args.bands.now l.invariant.0 in
    let d = c.index-bands-at.result in
    let same = same_values l.at l.bands c.is_null.new.slot d (omega (arith, lt, long)) c.is_null.ensures.same in
    let more = null_more l.at l.bands d (omega (arith, lt, long)) (c.is_null.ensures.yes c.if-not-is_null.false) l.invariant.1 in
    (same ∙ l.invariant.0, subst (λ (vs : List (Option Object)). AllByRecursion IsNull (take (l.at + 1) vs)) (sym same) more)
