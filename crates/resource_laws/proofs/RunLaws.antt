-- Every state that a run reaches is lawful; a start of a frame does not read contents.
use Rattle.std.proofs.Common.{◌≡◌, ℕ, Bool, true, false, if◌then◌else◌, List, [], ◌∷◌, map, filter, Option, Some, None, refl, ap}
use Rattle.gfx_model.specs.Words.{is_live_in}
use Rattle.gfx_model.specs.Views.{View}
use Rattle.gfx_model.specs.Resources.{Thing, Resources, ResourceCall, refusal_of, effect, is_kept_thing, live_target, with_live_target, start_frame}
use Rattle.resource_laws.specs.Bare.{bare, bare_of}
use Rattle.resource_laws.specs.Lawful.{IsLawful}
use Rattle.resource_laws.specs.Laws.{IsSameEffect, IsReached, opened, called, started}
use Rattle.resource_laws.proofs.BareCalls.{word_bare, refusals_bare}
use Rattle.resource_laws.proofs.BareEffects.{effect_same}
use Rattle.resource_laws.proofs.LawfulLaws.{lawful_bare}
use Rattle.resource_laws.proofs.StartLaws.{lawful_started, lawful_opening}
use Rattle.resource_laws.proofs.CallLaws.{lawful_call}

pub bare_law : (r : Resources) (c : ResourceCall) → (refusal_of (bare_of r) c ≡ refusal_of r c) × IsSameEffect (effect (bare_of r) c) (effect r c)
bare_law r c = (ap Rattle.gfx_model.specs.Resources.first_refusal (refusals_bare r c), effect_same r c)

-- ---- the start of a frame without contents

things_bare : (latency frame : ℕ) (ts : List Thing) → filter (is_kept_thing latency frame) (map bare ts) ≡ map bare (filter (is_kept_thing latency frame) ts)
things_bare latency frame [] = refl
things_bare latency frame (t ∷ ts) = step (is_kept_thing latency frame t) (things_bare latency frame ts)
  where
    step : (b : Bool) → filter (is_kept_thing latency frame) (map bare ts) ≡ map bare (filter (is_kept_thing latency frame) ts)
        → (if b then bare t ∷ filter (is_kept_thing latency frame) (map bare ts) else filter (is_kept_thing latency frame) (map bare ts)) ≡ map bare (if b then t ∷ filter (is_kept_thing latency frame) ts else filter (is_kept_thing latency frame) ts)
    step true h = ap (λ us. bare t ∷ us) h
    step false h = h

view_bare : (r : Resources) (v : View) → with_live_target (bare_of r) v ≡ with_live_target r v
view_bare r v = step v.target
  where
    step : (o : Option Rattle.gfx_model.specs.Words.Handle) → (record v { target = live_target (bare_of r) o }) ≡ (record v { target = live_target r o })
    step None = refl
    step (Some h) = λ j. record v { target = if is_live_in (word_bare r h j) h.serial then Some h else None }

views_bare : (r : Resources) (vs : List View) → map (with_live_target (bare_of r)) vs ≡ map (with_live_target r) vs
views_bare r [] = refl
views_bare r (v ∷ vs) = λ j. view_bare r v j ∷ views_bare r vs j

pub bare_started : (r : Resources) (frame : ℕ) → start_frame frame (bare_of r) ≡ bare_of (start_frame frame r)
bare_started r frame = λ j. record (bare_of (start_frame frame r)) { things = things_bare r.latency frame r.things j; views = record r.views { settings = views_bare r r.views.settings j } }

-- ---- runs

reached_lawful : (r : Resources) → IsReached r → IsLawful r
reached_lawful r (opened views latency frame serial le) = lawful_opening views latency frame serial le
reached_lawful r (called {r = before} c h e) = lawful_call before c (reached_lawful before h) e
reached_lawful r (started {r = before} frame h le) = lawful_started before frame (reached_lawful before h) le

pub reached : (r : Resources) → IsReached r → IsLawful r × IsLawful (bare_of r)
reached r h = let l = reached_lawful r h in (l, lawful_bare r l)
