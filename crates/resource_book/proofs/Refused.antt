use Rattle.std.proofs.Common.{◌≡◌, Bool, true, false, not, List, [], ◌∷◌, ◌++◌, Option, Some, None, sym, subst, MatchOption, if◌then◌else◌}
use Rattle.std.proofs.lemmas.Option.{none-some}
use Rattle.gfx_model.specs.Words.{Handle}
use Rattle.gfx_model.specs.Resources as model
use Rattle.gfx_words.specs.declared.refusals.Refusal.{Refusal}
use Rattle.gfx_words.specs.Seen.{refusal_seen, IsFirstRefusal}
use Rattle.resource_book.specs.Answered.{IsFirstRefusalOrOutOfMemory}

first_step : (c : Bool × model.Refusal) (xs ys : List (Bool × model.Refusal)) (x : model.Refusal) (b : Bool)
    → (model.first_refusal xs ≡ Some x → model.first_refusal (xs ++ ys) ≡ Some x)
    → (if b then Some c.1 else model.first_refusal xs) ≡ Some x → (if b then Some c.1 else model.first_refusal (xs ++ ys)) ≡ Some x
first_step c xs ys x true f e = e
first_step c xs ys x false f e = f e

pub first_more : (xs ys : List (Bool × model.Refusal)) (x : model.Refusal) → model.first_refusal xs ≡ Some x → model.first_refusal (xs ++ ys) ≡ Some x
first_more [] ys x e = absurd (none-some x e)
first_more (c ∷ cs) ys x e = first_step c cs ys x c.0 (first_more cs ys x) e

more_by : (o : Option model.Refusal) (xs ys : List (Bool × model.Refusal)) → MatchOption o ⊥ (λ x. model.first_refusal xs ≡ Some x) → MatchOption o (model.first_refusal (xs ++ ys) ≡ None) (λ x. model.first_refusal (xs ++ ys) ≡ Some x)
more_by None xs ys h = absurd h
more_by (Some x) xs ys h = first_more xs ys x h

pub attach_refused : (r : model.Resources) (color : Handle) (depth : Option Handle) (refusal : Refusal) → not (model.can_attach color depth) ≡ false → (model.is_not_live r color).0 ≡ false
    → IsFirstRefusal (model.first_refusal (model.not_live_option r depth)) refusal → IsFirstRefusalOrOutOfMemory (model.refusal_of r (model.create_frame_buffer color depth)) refusal
attach_refused r color depth refusal a l h =
    subst (λ o. IsFirstRefusalOrOutOfMemory o refusal)
    (λ j. if sym a j then Some model.wrong_kind else (if sym l j then Some (model.is_not_live r color).1 else model.first_refusal (model.not_live_option r depth ++ (model.lacks_index r Rattle.gfx_model.specs.Words.frame_buffer_kind ∷ model.lacks_serial r ∷ []))))
    (more_by (refusal_seen refusal) (model.not_live_option r depth) (model.lacks_index r Rattle.gfx_model.specs.Words.frame_buffer_kind ∷ model.lacks_serial r ∷ []) h)
