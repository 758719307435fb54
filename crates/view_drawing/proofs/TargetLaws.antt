-- A target that is taken out, changed and put back.
use Rattle.std.proofs.Common.{◌≡◌, ℕ, Option, Some, None, refl, sym, ap, ◌∙◌}
use Rattle.std.proofs.lemmas.Option.{none-some}
use Rattle.std.specs.Prelude.{option_and_then}
use Rattle.gfx_model.specs.Raster.{Texels}
use Rattle.gfx_model.specs.World as world
use Rattle.store_model.specs.Slots.{at}
use Rattle.store_model.specs.Textures.{Textures, TargetSlot, attached_texels, target_texels, out_for, target_out, back_for, target_back}
use Rattle.store_laws.specs.ByIndex.{on_taken, on_target_in}

-- the surface of texels that are taken out
abbrev pub surface_with : Texels × Option Texels → world.Surface
surface_with p = record { color = p.0; depth = p.1 }

-- a target that can't be taken out changes nothing
pub not_taken : (h new : Textures) (i : ℕ) (change : world.Surface → world.Surface) → target_texels h i ≡ None → new ≡ target_out i h → new ≡ on_target_in h i change
not_taken h new i change none is = is ∙ (λ j. out_for (none j) (at h.targets i) h) ∙ sym (λ j. on_taken change (none j) (at h.targets i) h)

-- a target that is put back changed
pub put_changed : (h new : Textures) (i : ℕ) (p : Texels × Option Texels) (change : world.Surface → world.Surface) (s : world.Surface) → target_texels h i ≡ Some p → s ≡ change (surface_with p)
    → new ≡ target_back i s.color s.depth (target_out i h) → new ≡ on_target_in h i change
put_changed h new i p change s some same is = go (at h.targets i) refl
  where
    go : (o : Option TargetSlot) → at h.targets i ≡ o → new ≡ on_target_in h i change
    go None e = absurd (none-some p (sym (ap (option_and_then (λ (t : TargetSlot). attached_texels h.textures t.color t.depth)) e) ∙ some))
    go (Some t) e =
        is
        ∙ (λ j. back_for (at (out_for (some j) (e j) h).targets i) s.color s.depth (out_for (some j) (e j) h))
        ∙ (λ j. back_for (e j) s.color s.depth (out_for (Some p) (Some t) h))
        ∙ (λ j. back_for (Some t) (same j).color (same j).depth (out_for (Some p) (Some t) h))
        ∙ sym (λ j. on_taken change (some j) (e j) h)
