-- What C is told of a handle.
use Rattle.std.proofs.Common.{◌≡◌, ℕ, Option, Some, None, Result, sym, subst}
use Rattle.std.specs.Prelude.{MatchOption}
use Rattle.c_calls.specs.declared.objects.Object.{Object}
use Rattle.c_calls.specs.declared.objects.Object.TheVariants.{Api, Recording}
use Rattle.c_words.specs.declared.faults.Fault.{Fault}
use Rattle.c_calls.specs.Exports.{OnContext, OnEncoder, context_of, encoder_of, without_context}
use Rattle.c_words.specs.Statuses.{status_of}
use Rattle.c_calls.specs.Views.{ContextView, EncoderView}

module _ {X : Type 0} (new : Option Object) (status : ℕ) (says : Result X Fault → (old new : ContextView) → Type 0) (other : Type 0) where
  pub on_context : (old : Option Object) (c d : ContextView) → old ≡ Some (Api c) → new ≡ Some (Api d) → (r : Result X Fault) → status ≡ status_of r → says r c d → OnContext old new status says other
  on_context old c d was is r st s = subst (λ (o : Option Object). OnContext o new status says other) (sym was) (d, is, r, st, s)

  pub no_context : (old : Option Object) → context_of old ≡ None → status ≡ without_context old → new ≡ old → other → OnContext old new status says other
  no_context old none st same o =
      subst (λ (x : Option ContextView). MatchOption x ((status ≡ without_context old) × (new ≡ old) × other) (λ c. (d : ContextView) × (new ≡ Some (Api d)) × (r : Result X Fault) × (status ≡ status_of r) × says r c d)) (sym none) (st, same, o)

module _ {X : Type 0} (new : Option Object) (status : ℕ) (says : Result X Fault → (old new : EncoderView) → Type 0) where
  pub on_encoder : (old : Option Object) (c d : EncoderView) → old ≡ Some (Recording c) → new ≡ Some (Recording d) → (r : Result X Fault) → status ≡ status_of r → says r c d → OnEncoder old new status says
  on_encoder old c d was is r st s = subst (λ (o : Option Object). OnEncoder o new status says) (sym was) (d, is, r, st, s)

  pub no_encoder : (old : Option Object) → encoder_of old ≡ None → status ≡ 100 → new ≡ old → OnEncoder old new status says
  no_encoder old none st same =
      subst (λ (x : Option EncoderView). MatchOption x ((status ≡ 100) × (new ≡ old)) (λ c. (d : EncoderView) × (new ≡ Some (Recording d)) × (r : Result X Fault) × (status ≡ status_of r) × says r c d)) (sym none) (st, same)
