-- Frames that were all shown.
use Rattle.std.proofs.Common.{◌≡◌, ◌&&◌, Bool, true, false, List, [], ◌∷◌, ◌++◌, refl, ap, sym, ◌∙◌}
use Rattle.std.specs.List.{list_all}
use Rattle.frame_record.specs.declared.frame.RenderedFrame.{RenderedFrame}
use Rattle.frame_record.specs.declared.frame.Outcome.{Outcome}
use Rattle.frame_record.specs.declared.frame.Outcome.TheVariants as outcomes
use Rattle.frame_keeping.specs.Shown.{IsShown, is_shown_outcome, is_shown}

both : (b c : Bool) → (b && c) ≡ true → (b ≡ true) × (c ≡ true)
both true true e = (refl, refl)
both true false e = absurd cc
both false c e = absurd cc

-- one more
pub shown_more : (rs : List RenderedFrame) (r : RenderedFrame) → list_all is_shown rs ≡ true → is_shown r ≡ true → list_all is_shown (rs ++ r ∷ []) ≡ true
shown_more [] r all one = ap (λ b. b && true) one
shown_more (x ∷ rs) r all one = let p = both (is_shown x) (list_all is_shown rs) all in λ i. p.0 i && shown_more rs r p.1 one i

in_middle : (front : List RenderedFrame) (r : RenderedFrame) (rest : List RenderedFrame) → list_all is_shown (front ++ r ∷ rest) ≡ true → is_shown r ≡ true
in_middle [] r rest all = (both (is_shown r) (list_all is_shown rest) all).0
in_middle (x ∷ front) r rest all = in_middle front r rest (both (is_shown x) (list_all is_shown (front ++ r ∷ rest)) all).1

by_outcome : (o : Outcome) → is_shown_outcome o ≡ true → o ≡ outcomes.Shown
by_outcome outcomes.Shown e = refl
by_outcome outcomes.PictureFault e = absurd cc
by_outcome outcomes.OutOfMemory e = absurd cc
by_outcome outcomes.Skipped e = absurd cc

-- one of them
pub shown_one : (rs front : List RenderedFrame) (r : RenderedFrame) (rest : List RenderedFrame) → list_all is_shown rs ≡ true → rs ≡ front ++ r ∷ rest → IsShown r
shown_one rs front r rest all is = by_outcome r.outcome (in_middle front r rest (sym (ap (list_all is_shown) is) ∙ all))
