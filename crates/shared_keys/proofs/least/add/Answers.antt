use Rattle.std.proofs.Common.{◌≡◌, sym, ◌∙◌, arith, ap, suc, map, ◌-◌, length, List, slice_index_or, slice_set}
use Rattle.shared_keys.specs.Marks.{shared_seen}
use Rattle.shared_keys.specs.declared.marks.SharedView.{SharedView}
use Rattle.shared_keys.proofs.Adding.{set-last, keep-last, add-last}
use Rattle.shared_keys.proofs.least.add.Goals as goal

pub returns-then-last-step : goal.returns-then-last-step
returns-then-last-step c =
    let xs : List SharedView = c.args.kept.now.items in
    let ys : List SharedView = c.deref.result.now in
    let same : ys ≡ xs = c.deref.ensures.value in
    let x = c.in-Some.last.now in
    let some = c.in-Some.ensures.item.3.0 in
    let at : x ≡ slice_index_or xs (length xs - 1) x = c.in-Some.ensures.item.1 ∙ ap (λ (zs : List SharedView). slice_index_or zs (length zs - 1) x) same in
    let long : length xs ≡ suc (length xs - 1) = let e = ap length same in omega (arith, some, e) in
    ap (map shared_seen) c.in_ok-push-2.ensures.items ∙ add-last xs (length xs - 1) c.args.step x long at c.if-last-step.true

pub returns-then-is_less : goal.returns-then-is_less
returns-then-is_less c =
    let xs : List SharedView = c.args.kept.now.items in
    let ys : List SharedView = c.deref.result.now in
    let same : ys ≡ xs = c.deref.ensures.value in
    let x = c.in-Some.last.now in
    let some = c.in-Some.ensures.item.3.0 in
    let at : x ≡ slice_index_or xs (length xs - 1) x = c.in-Some.ensures.item.1 ∙ ap (λ (zs : List SharedView). slice_index_or zs (length zs - 1) x) same in
    let long : length xs ≡ suc (length xs - 1) = let e = ap length same in omega (arith, some, e) in
    let place : c.len-at.result - 1 ≡ length xs - 1 = let l = c.len-at.ensures in let k = c.deref.ensures.len in let e = ap length same in omega (arith, l, k, e) in
    ap (λ n. map shared_seen (slice_set xs n c.args.step)) place ∙ set-last xs (length xs - 1) c.args.step x long at c.if-last-step.false (sym c.if-is_less.ensures)

pub returns-else-is_less : goal.returns-else-is_less
returns-else-is_less c =
    let xs : List SharedView = c.args.kept.now.items in
    let ys : List SharedView = c.deref.result.now in
    let same : ys ≡ xs = c.deref.ensures.value in
    let x = c.in-Some.last.now in
    let some = c.in-Some.ensures.item.3.0 in
    let at : x ≡ slice_index_or xs (length xs - 1) x = c.in-Some.ensures.item.1 ∙ ap (λ (zs : List SharedView). slice_index_or zs (length zs - 1) x) same in
    let long : length xs ≡ suc (length xs - 1) = let e = ap length same in omega (arith, some, e) in
    keep-last xs (length xs - 1) c.args.step x long at c.if-last-step.false (sym c.if-is_less.ensures)
