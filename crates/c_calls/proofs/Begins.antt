-- How encoders begin.
use Rattle.std.proofs.Common.{◌≡◌, ℕ, List, Option, Some, Result, Ok, Err, refl, ap, sym, ◌∙◌, subst}
use Rattle.std.specs.Prelude.{IfOk}
use Rattle.gfx_model.specs.FrameCalls.{Begun}
use Rattle.gfx_model.specs.Recorder.{Room}
use Rattle.gfx_model.specs.Views.{view_count}
use Rattle.gfx_model.specs.Words.{Handle}
use Rattle.gfx_words.specs.declared.refusals.Refusal.{Refusal}
use Rattle.atomic_table.specs.Seated.{TableId}
use Rattle.draw_encoder.specs.Calls as encoders
use Rattle.draw_encoder.specs.Calls.{RecorderView}
use Rattle.context_core.specs.Calls.{Begins, IsBegin}
use Rattle.context_core.specs.States.{CoreView, own}
use Rattle.render_core.specs.Rendered.{Rendering}
use Rattle.c_calls.specs.Calls.{BeginsRecorder}
use Rattle.c_calls.specs.declared.standing.Standing.{Standing}
use Rattle.c_calls.specs.Views.{ContextView, IsOn}
use Rattle.c_calls.proofs.Told.{context_with}

same_begun : (x y : Begun) → Some x ≡ Some y → x ≡ y
same_begun x y e = cc e

-- a recorder begins with the views of its context
pub begins_views : (room : Room) (e : encoders.EncoderView) (a b : CoreView) → Begins own room e a b → e.recorder.view_count ≡ view_count a.state.book.resources.views
begins_views room e a b m = sym (ap (λ (x : Begun). x.recorder.view_count) (same_begun _ (record { encoder = e.seat.encoder; recorder = e.recorder }) m.made))

module _ (rows : List (Option Handle)) (renderer : Rendering) (standing : Standing) (most : ℕ) (a b : CoreView) {t : TableId} (o : IsOn t a) where
  abbrev with_core : CoreView → ContextView
  with_core c = context_with rows renderer standing most c

  recorder_now : (room : Room) (result : Result RecorderView Refusal) → IsBegin own (λ r. r.state) result room a b → IfOk result (λ r. r.table ≡ a.table) → BeginsRecorder result room (with_core a) (with_core b)
  recorder_now room (Ok r) m same = (m, same, begins_views room r.state a b m ∙ o.views_are, refl)
  recorder_now room (Err e) m same = (m.0, ap with_core m.1)

  pub recorder_told : (room : Room) (result : Result RecorderView Refusal) → IsBegin own (λ r. r.state) result room a b → IfOk result (λ r. r.table ≡ a.table) → (old : ContextView) → with_core a ≡ old → BeginsRecorder result room old (with_core b)
  recorder_told room result m same old e = subst (λ (v : ContextView). BeginsRecorder result room v (with_core b)) e (recorder_now room result m same)
