-- Layouts of parts, made.
use Rattle.std.proofs.Common.{◌≡◌, List, Option, Some, None, Result, Ok, Err, ap, sym, ◌∙◌, subst}
use Rattle.std.specs.Prelude.{MatchOption}
use Rattle.gfx_model.specs.Resources.{create_layout}
use Rattle.gfx_model.specs.Vertex.{Layout, LayoutPart}
use Rattle.gfx_model.specs.Words.{Handle}
use Rattle.gfx_words.specs.declared.refusals.Refusal.TheVariants as refusals
use Rattle.c_words.specs.declared.faults.Fault.{Fault}
use Rattle.c_words.specs.declared.faults.Fault.TheVariants as faults
use Rattle.c_words.specs.Layouts.{IsLayoutOf}
use Rattle.c_calls.specs.Calls.{CreatesHere, MakesLayout}
use Rattle.c_calls.specs.Views.{ContextView}

-- the fault of a layout's parts, or another one
abbrev fault_in : Fault → Result Layout Fault → Fault
fault_in other (Ok layout) = other
fault_in other (Err f) = f

module _ (result : Result Handle Fault) (old new : ContextView) where
  abbrev Made : Option Layout → Type 0
  Made o = MatchOption o ((result ≡ Err (faults.Refused refusals.BadSize)) × (new ≡ old)) (λ layout. CreatesHere result (create_layout layout) old new)

  pub layout_made : (o : Option (List LayoutPart)) (layout : Layout) → IsLayoutOf o (Ok layout) → CreatesHere result (create_layout layout) old new → MakesLayout o result old new
  layout_made None layout h m = absurd (cc h)
  layout_made (Some parts) layout h m = subst Made (sym h) m

  pub layout_refused : (o : Option (List LayoutPart)) (f : Fault) → IsLayoutOf o (Err f) → result ≡ Err f → new ≡ old → MakesLayout o result old new
  layout_refused None f h is same = (is ∙ ap (λ (r : Result Layout Fault). Err (fault_in f r)) h, same)
  layout_refused (Some parts) f h is same = subst Made (sym h.1) (is ∙ ap (λ x. Err x) h.0, same)
