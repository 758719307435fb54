-- The outcome of the first frame that was not shown.
use Rattle.std.proofs.Common.{◌≡◌, ◌≤◌, List, [], ◌∷◌, ◌++◌, length, Option, Some, None, slice_index_or, refl, sym, ap, ◌∙◌, arith}
use Rattle.gfx.specs.Frames.{Outcome, RenderedFrame}
use Rattle.gfx.specs.Frames.outcomes as outcomes
use Rattle.gfx.specs.Pictures.{outcome_then, first_outcome}
use Rattle.gfx.specs.Calls.{BackNote, notes_of, IsBack, MakesWay, ContextView}
use Rattle.ring_turning.specs.Turning.{first_after}

then_shown : (o : Outcome) → outcome_then o outcomes.Shown ≡ o
then_shown outcomes.Shown = refl
then_shown outcomes.PictureFault = refl
then_shown outcomes.OutOfMemory = refl
then_shown outcomes.Skipped = refl

then_then : (o p q : Outcome) → outcome_then (outcome_then o p) q ≡ outcome_then o (outcome_then p q)
then_then outcomes.Shown p q = refl
then_then outcomes.PictureFault p q = refl
then_then outcomes.OutOfMemory p q = refl
then_then outcomes.Skipped p q = refl

first_append : (xs ys : List RenderedFrame) → first_outcome (xs ++ ys) ≡ outcome_then (first_outcome xs) (first_outcome ys)
first_append [] ys = refl
first_append (x ∷ xs) ys = ap (outcome_then x.outcome) (first_append xs ys) ∙ sym (then_then x.outcome (first_outcome xs) (first_outcome ys))

first_more : (xs : List RenderedFrame) (r : RenderedFrame) → first_outcome (xs ++ r ∷ []) ≡ outcome_then (first_outcome xs) r.outcome
first_more xs r = first_append xs (r ∷ []) ∙ ap (outcome_then (first_outcome xs)) (then_shown r.outcome)

-- when a frame came back, or none
pub outcome_after : {L : Type 0} (note : Option BackNote) (old : ContextView L) (back : List RenderedFrame) → MakesWay note old back → first_outcome back ≡ first_after (first_outcome old.back) note
outcome_after None old back m = ap first_outcome m.1
outcome_after (Some n) old back m =
    let b : IsBack n old.given old.back back = m.1 in
    ap first_outcome b.oldest.back ∙ first_more old.back b.rendered ∙ ap (λ (x : BackNote). outcome_then (first_outcome old.back) x.outcome) (sym b.note)

-- when all that were out came back, at most three, as their notes stand in three places
abbrev after_notes : Outcome → List (Option BackNote) → Outcome
after_notes o notes = first_after (first_after (first_after o (slice_index_or notes 0 None)) (slice_index_or notes 1 None)) (slice_index_or notes 2 None)

notes_told : (o : Outcome) (came : List RenderedFrame) → length came ≤ 3 → after_notes o (notes_of came) ≡ outcome_then o (first_outcome came)
notes_told o [] few = sym (then_shown o)
notes_told o (a ∷ []) few = sym (ap (outcome_then o) (then_shown a.outcome))
notes_told o (a ∷ b ∷ []) few = then_then o a.outcome b.outcome ∙ sym (ap (λ x. outcome_then o (outcome_then a.outcome x)) (then_shown b.outcome))
notes_told o (a ∷ b ∷ c ∷ []) few =
    then_then (outcome_then o a.outcome) b.outcome c.outcome ∙ then_then o a.outcome (outcome_then b.outcome c.outcome)
    ∙ sym (ap (λ x. outcome_then o (outcome_then a.outcome (outcome_then b.outcome x))) (then_shown c.outcome))
notes_told o (a ∷ b ∷ c ∷ d ∷ rest) few = absurd (omega (arith, few))

pub outcome_closed : (o : Outcome) (notes : List (Option BackNote)) (back came all : List RenderedFrame) → length came ≤ 3 → o ≡ first_outcome back → all ≡ back ++ came → notes ≡ notes_of came → after_notes o notes ≡ first_outcome all
outcome_closed o notes back came all few told is e =
    ap (after_notes o) e ∙ notes_told o came few ∙ ap (λ x. outcome_then x (first_outcome came)) told ∙ sym (ap first_outcome is ∙ first_append back came)
