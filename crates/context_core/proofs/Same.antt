-- Calls that make nothing and let nothing die.
use Rattle.std.proofs.Common.{◌≡◌, ℕ, Bool, true, false, not, List, Option, Some, None, Result, Ok, Err, refl, sym, ◌∙◌, subst, arith}
use Rattle.std.specs.Prelude.{⊤}
use Rattle.gfx_model.specs.Views.{Clear, ViewMode, plain_view, view_at}
use Rattle.gfx_model.specs.World.{Item}
use Rattle.gfx_model.specs.Words.{Handle, is_kind, frame_buffer_kind}
use Rattle.gfx_model.specs.Raster.{Rect, Affine}
use Rattle.resource_laws.specs.Lawful.{IsLawful}
use Rattle.resource_laws.proofs.CallLaws.{all_passed}
use Rattle.context_core.specs.Kept.{IsTarget, AreTargets}
use Rattle.context_core.proofs.Targets.{same_targets, other_target, live_is_target}
use Rattle.gfx_model.specs.Resources.{Thing, Resources, ResourceCall, update_buffer, update_texture, set_view_rect, set_view_scissor, set_view_clear, set_view_mode, set_view_transform, set_view_target, set_view_order, reset_view, effect, refusals, refusal_of, is_live_handle}
use Rattle.hold_table.specs.Views.{SeatView}
use Rattle.resource_book.specs.Written.{BookView, after_in}
use Rattle.resource_book.specs.Answered as books
use Rattle.resource_book.proofs.SameLaws.{same_law}
use Rattle.gfx_words.specs.declared.refusals.Refusal.{Refusal}
use Rattle.context_core.specs.Places.{IsPlaced}
use Rattle.atomic_table.specs.Seated.{TableId}
use Rattle.context_core.specs.Kept.{IsCore}
use Rattle.context_core.specs.Calls.{updated, Changes, Updates}
use Rattle.context_core.specs.States.{CoreState, CoreView, own, core_of}
use Rattle.context_core.proofs.Moves.{kept_same}
use Rattle.context_core.proofs.Tied.{placed_bare}

-- a call that changes no things
pub record IsQuiet (seat : SeatView) (r : Resources) (c : ResourceCall) : Type 0 where
  pub things : (effect r c).after.things ≡ r.things
  pub serial : (effect r c).after.next_serial ≡ r.next_serial
  pub frame : (effect r c).after.frame ≡ r.frame
  pub targets : refusal_of r c ≡ None → AreTargets seat.frame seat.places r.views.settings → AreTargets seat.frame seat.places (effect r c).after.views.settings

pub kept_quiet : (admits : ℕ → ℕ → List Item → ℕ → Type 0) (views : ℕ) (v : CoreState) (c : ResourceCall) → IsCore admits views ⊤ v → IsQuiet v.seat v.book.resources c → refusal_of v.book.resources c ≡ None → IsCore admits views ⊤ (updated c v)
kept_quiet admits views v c k q passes =
    let same = same_law v.book.resources c in
    kept_same admits views v k (after_in c None v.book)
    (record {
      placed = placed_bare v.seat.places (effect v.book.resources c).after.things (subst (λ (ts : List Thing). IsPlaced v.seat.places ts) (sym q.things) k.tied.placed);
      many = k.tied.many;
      older = (let e = q.serial in let l = k.tied.older in omega arith);
      frame = q.frame ∙ k.tied.frame;
      most = k.tied.most;
    }) q.serial same.0 same.1 (q.targets passes k.targets)

module _ {admits : ℕ → ℕ → List Item → ℕ → Type 0} {views : ℕ} {v : CoreState} (k : IsCore admits views ⊤ v) (c : ResourceCall) (q : IsQuiet v.seat v.book.resources c) (b : BookView) where
  after_call : refusal_of v.book.resources c ≡ None → b ≡ after_in c None v.book → IsCore admits views ⊤ (record v { book = b })
  after_call passes e = subst (λ (x : BookView). IsCore admits views ⊤ (record v { book = x })) (sym e) (kept_quiet admits views v c k q passes)

  after_none : b ≡ v.book → IsCore admits views ⊤ (record v { book = b })
  after_none e = subst (λ (x : BookView). IsCore admits views ⊤ (record v { book = x })) (sym e) k

  pub kept_changes : (result : Result (Unit {0}) Refusal) → books.Changes result c v.book b → IsCore admits views ⊤ (record v { book = b })
  kept_changes (Ok u) a = after_call a.0 a.1
  kept_changes (Err r) a = after_none a.1

  pub kept_updates : (result : Result (Unit {0}) Refusal) → books.Updates result c v.book b → IsCore admits views ⊤ (record v { book = b })
  kept_updates (Ok u) a = after_call a.0 a.1
  kept_updates (Err r) a = after_none a.1

  module _ (t : TableId) where
    abbrev before : CoreView
    before = core_of t v

    abbrev later : CoreView
    later = core_of t (record v { book = b })

    changes_here : (result : Result (Unit {0}) Refusal) → books.Changes result c v.book b → Changes own result c before later
    changes_here (Ok u) a = (a.0, λ j. core_of t (record v { book = a.1 j }))
    changes_here (Err r) a = (a.0, λ j. core_of t (record v { book = a.1 j }))

    updates_here : (result : Result (Unit {0}) Refusal) → books.Updates result c v.book b → Updates own result c before later
    updates_here (Ok u) a = (a.0, λ j. core_of t (record v { book = a.1 j }))
    updates_here (Err r) a = (a.0, λ j. core_of t (record v { book = a.1 j }))

    pub changes_told : (result : Result (Unit {0}) Refusal) → books.Changes result c v.book b → (old : CoreView) → before ≡ old → Changes own result c old later
    changes_told result a old e = subst (λ (o : CoreView). Changes own result c o later) e (changes_here result a)

    pub updates_told : (result : Result (Unit {0}) Refusal) → books.Updates result c v.book b → (old : CoreView) → before ≡ old → Updates own result c old later
    updates_told result a old e = subst (λ (o : CoreView). Updates own result c o later) e (updates_here result a)

-- ---- the calls that change no things

module _ (seat : SeatView) (r : Resources) where
  pub quiet_update_buffer : (h : Handle) (offset : ℕ) (bytes : List ℕ) → IsQuiet seat r (update_buffer h offset bytes)
  quiet_update_buffer h offset bytes = record { things = refl; serial = refl; frame = refl; targets = λ e a. a }

  pub quiet_update_texture : (h : Handle) (rect : Rect) (bytes : List ℕ) → IsQuiet seat r (update_texture h rect bytes)
  quiet_update_texture h rect bytes = record { things = refl; serial = refl; frame = refl; targets = λ e a. a }

  pub quiet_set_view_rect : (v : ℕ) (rect : Rect) → IsQuiet seat r (set_view_rect v rect)
  quiet_set_view_rect v rect = record { things = refl; serial = refl; frame = refl; targets = λ e a. same_targets seat.frame seat.places r.views v (λ x. record x { rect = rect }) (λ x. refl) a }

  pub quiet_set_view_scissor : (v : ℕ) (rect : Rect) → IsQuiet seat r (set_view_scissor v rect)
  quiet_set_view_scissor v rect = record { things = refl; serial = refl; frame = refl; targets = λ e a. same_targets seat.frame seat.places r.views v (λ x. record x { scissor = rect }) (λ x. refl) a }

  pub quiet_set_view_clear : (v : ℕ) (k : Clear) → IsQuiet seat r (set_view_clear v k)
  quiet_set_view_clear v k = record { things = refl; serial = refl; frame = refl; targets = λ e a. same_targets seat.frame seat.places r.views v (λ x. record x { clear = k }) (λ x. refl) a }

  pub quiet_set_view_mode : (v : ℕ) (m : ViewMode) → IsQuiet seat r (set_view_mode v m)
  quiet_set_view_mode v m = record { things = refl; serial = refl; frame = refl; targets = λ e a. same_targets seat.frame seat.places r.views v (λ x. record x { mode = m }) (λ x. refl) a }

  pub quiet_set_view_transform : (v : ℕ) (t : Affine) → IsQuiet seat r (set_view_transform v t)
  quiet_set_view_transform v t = record { things = refl; serial = refl; frame = refl; targets = λ e a. same_targets seat.frame seat.places r.views v (λ x. record x { transform = t }) (λ x. refl) a }

  pub quiet_set_view_order : (ids : List ℕ) → IsQuiet seat r (set_view_order ids)
  quiet_set_view_order ids = record { things = refl; serial = refl; frame = refl; targets = λ e a. a }

  pub quiet_reset_view : (v : ℕ) → IsQuiet seat r (reset_view v)
  quiet_reset_view v = record { things = refl; serial = refl; frame = refl; targets = λ e a. other_target seat.frame seat.places r.views v plain_view tt a }

  live_test : (b : Bool) → not b ≡ false → b ≡ true
  live_test true e = refl
  live_test false e = absurd cc

  accepted_target : (l : IsLawful r) (placed : IsPlaced seat.places r.things) (v : ℕ) (o : Option Handle) → refusal_of r (set_view_target v o) ≡ None → IsTarget seat.frame seat.places o
  accepted_target l placed v None e = tt
  accepted_target l placed v (Some h) e = let p = all_passed (refusals r (set_view_target v (Some h))) e in live_is_target r l seat.places placed seat.frame h (live_test (is_kind h.kind frame_buffer_kind) p.1.0) (live_test (is_live_handle r h) p.1.1.0)

  pub quiet_set_view_target : IsLawful r → IsPlaced seat.places r.things → (v : ℕ) (o : Option Handle) → IsQuiet seat r (set_view_target v o)
  quiet_set_view_target l placed v o = record {
    things = refl;
    serial = refl;
    frame = refl;
    targets = (λ e a. other_target seat.frame seat.places r.views v (record (view_at r.views v) { target = o }) (accepted_target l placed v o e) a);
  }
