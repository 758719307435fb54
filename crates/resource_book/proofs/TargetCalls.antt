-- How a view's target is refused.
use Rattle.std.proofs.Common.{◌≡◌, ℕ, true, false, [], ◌∷◌, Option, Some, None, Result, MatchResult, if◌then◌else◌, refl, sym, ap, ◌∙◌, subst}
use Rattle.gfx_model.specs.Words.{Handle}
use Rattle.gfx_model.specs.Views.{Views}
use Rattle.gfx_model.specs.Resources as model
use Rattle.gfx_model.specs.Resources.{Resources, first_refusal, refusals, refusal_of, is_no_view, set_view_target}
use Rattle.gfx_words.specs.declared.refusals.Refusal.{Refusal}
use Rattle.gfx_words.specs.Seen.{IsFirstRefusal}
use Rattle.view_table.specs.Answered.{IsAnswered}
use Rattle.resource_book.specs.Targets.{target_refusals}

target_first : (r : Resources) (view : ℕ) (o : Option Handle) → refusal_of r (set_view_target view o) ≡ (if (is_no_view r view).0 then Some model.bad_view else first_refusal (target_refusals r o))
target_first r view None = refl
target_first r view (Some h) = refl

pub target_no_view : (r : Resources) (view : ℕ) (o : Option Handle) → (is_no_view r view).0 ≡ true → refusal_of r (set_view_target view o) ≡ Some model.bad_view
target_no_view r view o e = target_first r view o ∙ ap (λ b. if b then Some model.bad_view else first_refusal (target_refusals r o)) e

pub target_refused : (r : Resources) (view : ℕ) (o : Option Handle) (x : Refusal) → (is_no_view r view).0 ≡ false → IsFirstRefusal (first_refusal (target_refusals r o)) x → IsFirstRefusal (refusal_of r (set_view_target view o)) x
target_refused r view o x e h =
    subst (λ (f : Option model.Refusal). IsFirstRefusal f x) (sym (target_first r view o ∙ ap (λ b. if b then Some model.bad_view else first_refusal (target_refusals r o)) e)) h

pub target_answered : (result : Result (Unit {0}) Refusal) (r : Resources) (view : ℕ) (o : Option Handle) (new changed : Views) → first_refusal (target_refusals r o) ≡ None
    → IsAnswered result (is_no_view r view ∷ []) r.views new changed → IsAnswered result (refusals r (set_view_target view o)) r.views new changed
target_answered result r view o new changed none a =
    subst (λ (f : Option model.Refusal). MatchResult result (λ _. (f ≡ None) × (new ≡ changed)) (λ x. IsFirstRefusal f x × (new ≡ r.views)))
    (sym (target_first r view o ∙ ap (λ f. if (is_no_view r view).0 then Some model.bad_view else f) none)) a
