use Rattle.std.proofs.Common.{◌≡◌, ◌<◌, ◌≤◌, ℕ, ◌+◌, Bool, true, false, List, drop, length, Option, None, refl, sym, ap, subst, ◌∙◌, arith}
use Rattle.scene_model.specs.Scene.{Scene}
use Rattle.scene_text.specs.Seen.{scene_seen}
use Rattle.dropped_lines.specs.Verdicts.{Verdict, verdicts}
use Rattle.item_lines.specs.declared.places.Place.{Place}
use Rattle.item_lines.specs.declared.accepted.ItemLine.{ItemLine}
use Rattle.item_lines.specs.Items as model
use Rattle.item_lines.proofs.Merging.{IsLeft, left-next, left-last, one-reached}
use Rattle.item_lines.proofs.PlaceLaws.{verdicts-many}
use Rattle.item_lines.proofs.accepted.accepted_items.Goals as goal
use Rattle.item_lines.proofs.accepted.accepted_items.Goals.{then-is_dropped, else-is_dropped+in_ok-put_accepted}

pub loop-index-preserved : goal.loop-index-preserved
loop-index-preserved c =
    let s : Scene = scene_seen c.args.scene.now in
    let ns : List ℕ = c.args.numbers.now in
    let ps : List (Option Place) = c.args.places.now in
    let i : ℕ = c.loop-index.index in
    let all : List ItemLine = model.items_with ns (verdicts s) ps in
    let many : length (verdicts s) ≡ length ps = verdicts-many s ∙ ap length (sym c.requires.places) in
    let before : i < c.lesser-index-end.result = c.loop-index-test.true in
    let lt : i < length ns = let most = c.lesser-index-end.ensures.first in omega (arith, before, most) in
    let lp : i < length ps = let most = c.lesser-index-end.ensures.second in omega (arith, before, most) in
    let Is : ℕ → List ItemLine → Type 0 = λ at xs. IsLeft (drop (i + 1) ns) (drop (i + 1) (verdicts s)) (drop (i + 1) ps) c.args.dropped.now at xs all in
    elim c.if-is_dropped.branch [
      | then-is_dropped w ↦ subst (λ (at : ℕ). Is at c.if-is_dropped.items.items) (sym w.at-is) (subst (λ (xs : List ItemLine). Is (c.loop-index.at + 1) xs) (λ j. (sym w.items-is j).items)
          (left-next ns (verdicts s) ps c.args.dropped.now i c.loop-index.at c.loop-index.items.items c.loop-index.items.items all 0 None true c.requires.ascend lt lp many c.loop-index.invariant
          (sym w.if-is_dropped.true ∙ c.is_dropped.ensures.value)))
      | else-is_dropped+in_ok-put_accepted w ↦ subst (λ (at : ℕ). Is at c.if-is_dropped.items.items) (sym w.at-is) (subst (λ (xs : List ItemLine). Is c.loop-index.at xs) (λ j. (sym w.items-is j).items)
          (left-next ns (verdicts s) ps c.args.dropped.now i c.loop-index.at c.loop-index.items.items w.put_accepted.new.items.items all 0 None false c.requires.ascend lt lp many c.loop-index.invariant
          (sym w.if-is_dropped.false ∙ c.is_dropped.ensures.value) w.in_ok-put_accepted.ensures))
    ]

pub returns : goal.returns
returns c =
    let s : Scene = scene_seen c.args.scene.now in
    let ns : List ℕ = c.args.numbers.now in
    let ps : List (Option Place) = c.args.places.now in
    left-last ns (verdicts s) ps c.args.dropped.now c.loop-index.index c.loop-index.at c.loop-index.items.items (model.items_with ns (verdicts s) ps)
    (one-reached (length ns) (length ps) c.lesser-index-end.result c.loop-index.index c.lesser-index-end.ensures.is c.loop-index-test.false)
    (verdicts-many s ∙ ap length (sym c.requires.places)) c.loop-index.invariant
    ∙ ap (model.items_with ns (verdicts s)) c.requires.places
