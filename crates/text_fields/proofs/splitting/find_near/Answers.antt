use Rattle.std.proofs.Common.{◌≡◌, ◌<◌, ◌≤◌, ◌+◌, [], ◌∷◌, true, length, take, drop, subst, arith}
use Rattle.std.proofs.lemmas.List.{take_rest, length-drop}
use Rattle.scene_model.specs.Field.{split_at}
use Rattle.scene_model.proofs.SplitLaws.{is_free_of}
use Rattle.text_fields.proofs.Splits.{split_found, none_behind, some_behind}
use Rattle.text_fields.proofs.splitting.find_near.Goals as goal

pub returns-then-bytes-place-clause-cases : goal.returns-then-bytes-place-clause-cases
returns-then-bytes-place-clause-cases c =
    let lt : c.loop-place.place < length c.args.bytes.now = omega (arith, c.loop-place-test.true, c.min-near.ensures) in
    (lt, split_found c.args.separator c.args.bytes.now c.loop-place.place lt c.loop-place.invariant c.if-bytes-place.true)

pub returns-in-Some-clause-cases : goal.returns-in-Some-clause-cases
returns-in-Some-clause-cases c =
    let bytes = c.args.bytes.now in
    let near = c.min-near.result in
    let n = c.in-Some.n in
    let end : c.loop-place.place ≡ near = omega (arith, c.loop-place-test.false, c.loop-place.auto.place-end) in
    let free : is_free_of c.args.separator (take near bytes) ≡ true = subst (λ k. is_free_of c.args.separator (take k bytes) ≡ true) end c.loop-place.invariant in
    let within : near ≤ length bytes = omega (arith, c.min-near.ensures) in
    let found = subst (λ ys. (n < length ys) × (split_at c.args.separator ys ≡ take n ys ∷ split_at c.args.separator (drop (n + 1) ys))) (take_rest bytes near) c.in-Some.ensures.cases in
    (omega (arith, found.0, length-drop near bytes, within), some_behind c.args.separator bytes near n within free found.1)

pub returns-in-None-clause-cases : goal.returns-in-None-clause-cases
returns-in-None-clause-cases c =
    let bytes = c.args.bytes.now in
    let near = c.min-near.result in
    let end : c.loop-place.place ≡ near = omega (arith, c.loop-place-test.false, c.loop-place.auto.place-end) in
    let free : is_free_of c.args.separator (take near bytes) ≡ true = subst (λ k. is_free_of c.args.separator (take k bytes) ≡ true) end c.loop-place.invariant in
    none_behind c.args.separator bytes near free (subst (λ ys. split_at c.args.separator ys ≡ ys ∷ []) (take_rest bytes near) c.in-None.ensures.cases)
