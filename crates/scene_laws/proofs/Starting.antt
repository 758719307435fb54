-- What is known stays known when the next frame starts.
use Rattle.std.proofs.Common.{◌≡◌, ℕ, ◌≤◌, Bool, true, false, if◌then◌else◌, List, [], ◌∷◌, map, filter, Option, Some, None, refl, sym, ap, ◌∙◌, subst}
use Rattle.std.specs.List.{AllByRecursion, find}
use Rattle.std.proofs.lemmas.Option.{same_Some, none-some}
use Rattle.gfx_model.specs.Words.{frame_buffer_kind, Handle}
use Rattle.gfx_model.specs.Views.{View}
use Rattle.gfx_model.specs.Resources.{Thing, Resources, is_at, is_live_handle, start_frame, is_kept_thing, is_kept_death, live_target, with_live_target}
use Rattle.call_laws.specs.Calls.{is_there}
use Rattle.call_laws.specs.Context.{HasThere, HasThereOption}
use Rattle.call_laws.proofs.NextLaws.{all_kept}
use Rattle.resource_laws.specs.Lawful.{IsLawful}
use Rattle.resource_laws.proofs.StartLaws.{lawful_started}
use Rattle.resource_laws.proofs.LiveLaws.{live_found}
use Rattle.scene_model.specs.Fold.{Progress, at_start}
use Rattle.scene_laws.proofs.Accepting.{IsGiven}
use Rattle.scene_laws.proofs.Lines.{Known, TargetsThere}

found_kept : (p keep : Thing → Bool) (ts : List Thing) (t : Thing) → find p ts ≡ Some t → keep t ≡ true → find p (filter keep ts) ≡ Some t
found_kept p keep [] t e k = absurd (none-some t e)
found_kept p keep (x ∷ xs) t e k = step (p x) (keep x) refl refl e (λ q. found_kept p keep xs t q k)
  where
    step : (b c : Bool) → p x ≡ b → keep x ≡ c → (if b then Some x else find p xs) ≡ Some t → (find p xs ≡ Some t → find p (filter keep xs) ≡ Some t) → find p (if c then x ∷ filter keep xs else filter keep xs) ≡ Some t
    step true true is has q rest = ap (λ b. if b then Some x else find p (filter keep xs)) is ∙ q
    step true false is has q rest = absurd (false_true (sym has ∙ ap keep (same_Some x t q) ∙ k))
      where
        false_true : false ≡ true → ⊥
        false_true e = cc
    step false true is has q rest = ap (λ b. if b then Some x else find p (filter keep xs)) is ∙ rest q
    step false false is has q rest = rest q

module _ (n : ℕ) (r : Resources) (l : IsLawful r) where
  target_started : (o : Option Handle) → HasThereOption r frame_buffer_kind o → HasThereOption (start_frame n r) frame_buffer_kind (live_target r o)
  target_started None h = tt
  target_started (Some h) has = step (is_live_handle r h) refl
    where
      step : (b : Bool) → is_live_handle r h ≡ b → HasThereOption (start_frame n r) frame_buffer_kind (if b then Some h else None)
      step false e = tt
      step true e =
          let f = live_found r h l e in
          let t : Thing = has.1.0 in
          let lives : t.death ≡ None = ap (λ (u : Thing). u.death) (same_Some t f.0 (sym has.1.1.found ∙ f.1)) ∙ f.3 in
          let keeps : is_kept_thing r.latency n t ≡ true = ap (is_kept_death r.latency n) lives in
          (has.0, (t, record { found = found_kept (is_at h.kind h.index) (is_kept_thing r.latency n) r.things t has.1.1.found keeps; own = has.1.1.own; there = ap (is_there n) lives }))

  targets_started : (vs : List View) → TargetsThere r vs → TargetsThere (start_frame n r) (map (with_live_target r) vs)
  targets_started [] a = tt
  targets_started (v ∷ vs) a = (target_started v.target a.0, targets_started vs a.1)

pub known_started : (given : ℕ → Handle) (n : ℕ) (p : Progress) → Known given p → p.resources.frame ≤ n → Known given (at_start n p)
known_started given n p k le = record {
  lawful = lawful_started p.resources n k.lawful le;
  things = all_kept (λ t. IsGiven given t.handle) (is_kept_thing p.resources.latency n) p.resources.things k.things;
  names = k.names;
  targets = targets_started n p.resources k.lawful p.resources.views.settings k.targets;
}
