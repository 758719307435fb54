-- The targets of views.
use Rattle.std.proofs.Common.{◌≡◌, ℕ, zero, suc, ◌<◌, ◌==◌, Bool, true, false, IsTrue, List, [], ◌∷◌, map, replicate, Option, Some, None, if◌then◌else◌, slice_set, slice_index_or, refl, sym, ap, ◌∙◌, subst, arith, eq-eqb}
use Rattle.std.specs.List.{find}
use Rattle.schedule_model.proofs.Lists.{all-set}
use Rattle.gfx_model.specs.Words.{Handle, frame_buffer_kind, is_kind, kind_number, greatest, place_of_handle}
use Rattle.gfx_model.specs.Views.{View, Views, plain_view, view_at}
use Rattle.gfx_model.specs.Resources.{Thing, Resources, is_at, is_live_handle, live_target, with_live_target}
use Rattle.schedule_model.specs.Machine.{Place, live, place_at, has_usable}
use Rattle.resource_laws.specs.Lawful.{IsLawful}
use Rattle.std.proofs.lemmas.Bool.{eqb-true}
use Rattle.resource_laws.proofs.KindLaws.{greatest_same}
use Rattle.resource_laws.proofs.DeathLaws.{and_parts, found_true}
use Rattle.resource_laws.proofs.LiveLaws.{live_found, all_found}
use Rattle.context_core.specs.Places.{place_by, place_of, IsPlaced, IsUsable}
use Rattle.context_core.specs.Kept.{IsTarget, AreTargets}

-- the back buffer is a target of every new view
pub new_targets : (frame : ℕ) (places : List Place) (n : ℕ) → AreTargets frame places (replicate n plain_view)
new_targets frame places zero = tt
new_targets frame places (suc n) = (tt, new_targets frame places n)

-- one view's settings change
target_at : (frame : ℕ) (places : List Place) (vs : List View) (v : ℕ) → AreTargets frame places vs → IsTarget frame places (slice_index_or vs v plain_view).target
target_at frame places [] v a = tt
target_at frame places (x ∷ vs) zero a = a.0
target_at frame places (x ∷ vs) (suc v) a = target_at frame places vs v a.1

pub same_targets : (frame : ℕ) (places : List Place) (vs : Views) (v : ℕ) (f : View → View) → ((x : View) → (f x).target ≡ x.target) → AreTargets frame places vs.settings → AreTargets frame places (slice_set vs.settings v (f (view_at vs v)))
same_targets frame places vs v f same a = all-set (λ view. IsTarget frame places view.target) vs.settings v (f (view_at vs v)) a (subst (IsTarget frame places) (sym (same (view_at vs v))) (target_at frame places vs.settings v a))

pub other_target : (frame : ℕ) (places : List Place) (vs : Views) (v : ℕ) (x : View) → IsTarget frame places x.target → AreTargets frame places vs.settings → AreTargets frame places (slice_set vs.settings v x)
other_target frame places vs v x t a = all-set (λ view. IsTarget frame places view.target) vs.settings v x a t

-- a handle's index is one of its kind where a thing stands at its place
pub index_below : (ts : List Thing) (h : Handle) (t : Thing) → find (is_at h.kind h.index) ts ≡ Some t → t.handle.index < greatest t.handle.kind → h.index < greatest h.kind
index_below ts h t e lt =
    let p = and_parts (kind_number t.handle.kind == kind_number h.kind) (t.handle.index == h.index) (found_true (is_at h.kind h.index) ts t e) in
    let k = greatest_same t.handle.kind h.kind (eqb-true (kind_number t.handle.kind) (kind_number h.kind) p.0) in
    let i = eqb-true t.handle.index h.index p.1 in
    omega (arith, lt, k, i)

-- a live handle can be named in every frame
module _ (r : Resources) (l : IsLawful r) (places : List Place) (placed : IsPlaced places r.things) where
  live_usable : (h : Handle) (frame : ℕ) → is_live_handle r h ≡ true → IsUsable frame places h
  live_usable h frame e =
      let found = live_found r h l e in
      let t : Thing = found.0 in
      let below : t.handle.index < greatest t.handle.kind = all_found (λ u. u.handle.index < greatest u.handle.kind) (is_at h.kind h.index) r.things t l.fits found.1 in
      let at : place_at places (place_of_handle h) ≡ live h.serial = placed h.kind h.index (index_below r.things h t found.1 below) ∙ ap place_of found.1 ∙ (λ j. place_by (found.2 j) (found.3 j)) in
      subst (λ (p : Place). IsTrue (has_usable frame h.serial p)) (sym at) (eq-eqb h.serial h.serial refl)

  pub live_is_target : (frame : ℕ) (h : Handle) → IsTrue (is_kind h.kind frame_buffer_kind) → is_live_handle r h ≡ true → IsTarget frame places (Some h)
  live_is_target frame h k e = (k, live_usable h frame e)

  -- the start of a frame leaves live targets alone
  live_by : (now next : ℕ) (h : Handle) (b : Bool) → is_live_handle r h ≡ b → IsTarget now places (Some h) → IsTarget next places (if b then Some h else None)
  live_by now next h true e t = live_is_target next h t.0 e
  live_by now next h false e t = tt

  live_option : (now next : ℕ) (o : Option Handle) → IsTarget now places o → IsTarget next places (live_target r o)
  live_option now next None t = tt
  live_option now next (Some h) t = live_by now next h (is_live_handle r h) refl t

  pub live_targets : (now next : ℕ) (vs : List View) → AreTargets now places vs → AreTargets next places (map (with_live_target r) vs)
  live_targets now next [] a = tt
  live_targets now next (v ∷ vs) a = (live_option now next v.target a.0, live_targets now next vs a.1)
