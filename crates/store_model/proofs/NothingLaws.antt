-- What is not there: taking it out changes nothing.
use Rattle.std.proofs.Common.{◌≡◌, ℕ, suc, Bool, true, false, List, [], ◌∷◌, map, Option, Some, None, refl, sym, ap, ◌∙◌}
use Rattle.std.specs.Prelude.{option_and_then, is_some, ◌||◌, ◌==◌}
use Rattle.std.proofs.lemmas.Bool.{eqb-true}
use Rattle.gfx_model.specs.Words.{Kind, layout_kind, vertex_buffer_kind, index_buffer_kind, texture_kind, frame_buffer_kind, program_kind, uniform_kind, Format, rgba8, d24s8}
use Rattle.store_model.specs.Slots.{at}
use Rattle.store_model.specs.Buffers as buffers
use Rattle.store_model.specs.Textures.{TextureSlot, TargetSlot, Textures, slot_sides, sides_at, can_attach_at, is_index, holds, unless_held, unless_holding, destroyed, IsTextures}
use Rattle.store_model.proofs.SlotLaws.{emptied_nothing}
use Rattle.store_model.proofs.AttachLaws.{first_side}

-- a texture that is not there has no sides
nothing_sides : (f : Format) (slots : List (Option TextureSlot)) (i : ℕ) → at slots i ≡ None → is_some (sides_at f slots i) ≡ true → ⊥
nothing_sides f slots i none e = let no : false ≡ true = sym (ap (λ o. is_some (option_and_then (slot_sides f) o)) none) ∙ e in cc no

color_there : (slots : List (Option TextureSlot)) (color : ℕ) (depth : Option ℕ) → can_attach_at slots color depth ≡ true → is_some (sides_at rgba8 slots color) ≡ true
color_there slots color None e = e
color_there slots color (Some depth) e = (first_side (sides_at rgba8 slots color) (sides_at d24s8 slots depth) e).0

-- a frame buffer does not hold a texture that is not there
not_holding : (slots : List (Option TextureSlot)) (i color : ℕ) (depth : Option ℕ) → at slots i ≡ None → can_attach_at slots color depth ≡ true → ((i == color) || is_index i depth) ≡ false
not_holding slots i color depth none fits = by_color (i == color) refl
  where
    by_depth : (place : Option ℕ) → can_attach_at slots color place ≡ true → is_index i place ≡ false
    by_depth None e = refl
    by_depth (Some j) e = by_test (i == j) refl
      where
        by_test : (b : Bool) → (i == j) ≡ b → b ≡ false
        by_test false k = refl
        by_test true k = absurd (nothing_sides d24s8 slots j (ap (at slots) (sym (eqb-true i j k)) ∙ none) (first_side (sides_at rgba8 slots color) (sides_at d24s8 slots j) e).1)

    by_color : (b : Bool) → (i == color) ≡ b → (b || is_index i depth) ≡ false
    by_color true k = absurd (nothing_sides rgba8 slots color (ap (at slots) (sym (eqb-true i color k)) ∙ none) (color_there slots color depth fits))
    by_color false k = by_depth depth fits

none_held : (i : ℕ) (targets : List (Option TargetSlot)) → ((j : ℕ) (t : TargetSlot) → at targets j ≡ Some t → holds i t ≡ false) → map (unless_holding i) targets ≡ targets
none_held i [] free = refl
none_held i (None ∷ targets) free = ap (λ ts. None ∷ ts) (none_held i targets (λ j t e. free (suc j) t e))
none_held i (Some t ∷ targets) free = ap (λ b. unless_held b t ∷ map (unless_holding i) targets) (free 0 t refl) ∙ ap (λ ts. Some t ∷ ts) (none_held i targets (λ j u e. free (suc j) u e))

-- taking out a texture that is not there changes nothing
pub destroyed_nothing : (h : Textures) (i : ℕ) → IsTextures h → at h.textures i ≡ None → destroyed i h ≡ h
destroyed_nothing h i all none =
    ap (λ x. record { textures = x; targets = map (unless_holding i) h.targets }) (emptied_nothing h.textures i none)
    ∙ ap (λ x. record { textures = h.textures; targets = x }) (none_held i h.targets (λ j t e. not_holding h.textures i t.color t.depth none (all.attached j t e)))

no_thing : {X : Type 0} (o : Option X) → is_some o ≡ false → o ≡ None
no_thing None e = refl
no_thing (Some x) e = cc

-- taking out a layout, a buffer or a uniform that is not there changes nothing
pub taken_nothing : (h : buffers.Buffers) (kind : Kind) (i : ℕ) → buffers.has_thing kind i h ≡ false → buffers.destroyed kind i h ≡ h
taken_nothing h layout_kind i e = ap (λ x. record h { layouts = x }) (emptied_nothing h.layouts i (no_thing (at h.layouts i) e))
taken_nothing h vertex_buffer_kind i e = ap (λ x. record h { vertices = x }) (emptied_nothing h.vertices i (no_thing (at h.vertices i) e))
taken_nothing h index_buffer_kind i e = ap (λ x. record h { indices = x }) (emptied_nothing h.indices i (no_thing (at h.indices i) e))
taken_nothing h uniform_kind i e = ap (λ x. record h { uniforms = x }) (emptied_nothing h.uniforms i (no_thing (at h.uniforms i) e))
taken_nothing h texture_kind i e = refl
taken_nothing h frame_buffer_kind i e = refl
taken_nothing h program_kind i e = refl
