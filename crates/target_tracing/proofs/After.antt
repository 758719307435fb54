-- The surface of a frame buffer after a change of it.
use Rattle.std.proofs.Common.{◌≡◌, ◌≢◌, ℕ, List, Option, Some, None, refl, sym, ap, ◌∙◌}
use Rattle.std.proofs.lemmas.Option.{none-some}
use Rattle.std.specs.Prelude.{option_map}
use Rattle.std.specs.Option.{option_and_then}
use Rattle.gfx_model.specs.Words.{Handle}
use Rattle.gfx_model.specs.Raster.{Texels}
use Rattle.gfx_model.specs.World.{Surface}
use Rattle.store_model.specs.Slots.{at, changed_at}
use Rattle.store_model.specs.Textures.{Textures, TextureSlot, TargetSlot, IsTextures, slot_texels, slot_with, texels_in_row, attached_texels, with_depth, target_texels}
use Rattle.store_model.proofs.TargetLaws.{two_textures}
use Rattle.store_laws.specs.ByIndex.{Stores, with_textures, on_taken, on_target}
use Rattle.store_laws.proofs.RowChanges.{at_changed, at_beside}
use Rattle.store_laws.proofs.TargetLaws.{surface, color_back, both_back}
use Rattle.store_laws.proofs.SideLaws.{sides, KeepsSides}
use Rattle.target_tracing.specs.Surfaces.{surface_in}

there-slot : (o : Option TextureSlot) (x c : Texels) → option_and_then slot_texels o ≡ Some c → option_and_then slot_texels (option_map (slot_with x) o) ≡ Some x
there-slot None x c e = absurd (none-some c e)
there-slot (Some s) x c e = refl

texels-put : (x c : Texels) (slots : List (Option TextureSlot)) (i : ℕ) → texels_in_row slots i ≡ Some c → texels_in_row (changed_at (slot_with x) i slots) i ≡ Some x
texels-put x c slots i e = ap (option_and_then slot_texels) (at_changed (slot_with x) slots i) ∙ there-slot (at slots i) x c e

texels-beside : (x : Texels) (slots : List (Option TextureSlot)) (i j : ℕ) → i ≢ j → texels_in_row (changed_at (slot_with x) j slots) i ≡ texels_in_row slots i
texels-beside x slots i j ne = ap (option_and_then slot_texels) (at_beside (slot_with x) slots i j ne)

-- ---- how a frame buffer stands

data TargetIs (h : Stores) (t : Handle) : Type 0 where
  not_taken : target_texels h.textures t.index ≡ None → TargetIs h t
  flat : (i : ℕ) (c : Texels) → at h.textures.targets t.index ≡ Some (record { color = i; depth = None }) → texels_in_row h.textures.textures i ≡ Some c → TargetIs h t
  deep : (i j : ℕ) (c d : Texels) → at h.textures.targets t.index ≡ Some (record { color = i; depth = Some j }) → texels_in_row h.textures.textures i ≡ Some c → texels_in_row h.textures.textures j ≡ Some d → i ≢ j → TargetIs h t

abbrev texels-of : Stores → Option TargetSlot → Option (Texels × Option Texels)
texels-of h o = option_and_then (λ (x : TargetSlot). attached_texels h.textures.textures x.color x.depth) o

by-texels : (h : Stores) (t : Handle) (i j : ℕ) (o p : Option Texels) → at h.textures.targets t.index ≡ Some (record { color = i; depth = Some j }) → texels_in_row h.textures.textures i ≡ o → texels_in_row h.textures.textures j ≡ p → i ≢ j → TargetIs h t
by-texels h t i j (Some c) (Some d) e f g ne = deep i j c d e f g ne
by-texels h t i j None p e f g ne = not_taken (ap (texels-of h) e ∙ ap (option_and_then (with_depth (texels_in_row h.textures.textures j))) f)
by-texels h t i j (Some c) None e f g ne = not_taken (ap (texels-of h) e ∙ ap (λ o. option_and_then (with_depth o) (texels_in_row h.textures.textures i)) g ∙ ap (option_and_then (with_depth None)) f)

abbrev with-none : Texels → Texels × Option Texels
with-none c = (c, None)

by-color : (h : Stores) (t : Handle) (i : ℕ) (o : Option Texels) → at h.textures.targets t.index ≡ Some (record { color = i; depth = None }) → texels_in_row h.textures.textures i ≡ o → TargetIs h t
by-color h t i (Some c) e f = flat i c e f
by-color h t i None e f = not_taken (ap (texels-of h) e ∙ ap (option_map with-none) f)

by-slot : (h : Stores) (t : Handle) (color : ℕ) (depth : Option ℕ) → at h.textures.targets t.index ≡ Some (record { color = color; depth = depth }) → depth ≢ Some color → TargetIs h t
by-slot h t color None e ne = by-color h t color (texels_in_row h.textures.textures color) e refl
by-slot h t color (Some j) e ne = by-texels h t color j (texels_in_row h.textures.textures color) (texels_in_row h.textures.textures j) e refl refl (λ f. ne (ap Some (sym f)))

-- the textures of a store's frame buffer are two
pub apart-in : (h : Textures) (i : ℕ) (s : TargetSlot) → IsTextures h → at h.targets i ≡ Some s → s.depth ≢ Some s.color
apart-in h i s all e same = two_textures h i s s.color all e same refl

target-is : (h : Stores) (t : Handle) (o : Option TargetSlot) → IsTextures h.textures → at h.textures.targets t.index ≡ o → TargetIs h t
target-is h t None all e = not_taken (ap (texels-of h) e)
target-is h t (Some s) all e = by-slot h t s.color s.depth e (apart-in h.textures t.index s all e)

-- ---- a change of the surface

no-depth : (change : Surface → Surface) (k : KeepsSides change) (c : Texels) → (change (surface c None)).depth ≡ None
no-depth change k c = step (change (surface c None)).depth (k.deep (surface c None))
  where
    step : (o : Option Texels) → option_map sides o ≡ None → o ≡ None
    step None e = refl
    step (Some x) e = absurd (none-some (sides x) (sym e))

some-depth : (change : Surface → Surface) (k : KeepsSides change) (c d : Texels) → (x : Texels) × ((change (surface c (Some d))).depth ≡ Some x)
some-depth change k c d = step (change (surface c (Some d))).depth (k.deep (surface c (Some d)))
  where
    step : (o : Option Texels) → option_map sides o ≡ Some (sides d) → (x : Texels) × (o ≡ Some x)
    step None e = absurd (none-some (sides d) e)
    step (Some x) e = (x, refl)

none-changed : (h : Stores) (t : Handle) (change : Surface → Surface) → target_texels h.textures t.index ≡ None → on_target h (Some t) change ≡ h
none-changed h t change e = ap (λ o. with_textures h (on_taken change o (at h.textures.targets t.index) h.textures)) e

abbrev surface-of : Option (Texels × Option Texels) → Option Surface
surface-of o = option_map (λ p. record { color = p.0; depth = p.1 }) o

-- the textures of a row that is changed
abbrev row-of : Stores → List (Option TextureSlot) → Stores
row-of h slots = with_textures h (record h.textures { textures = slots })

pub surface-after : (h : Stores) (t : Handle) (f : Surface → Surface) → KeepsSides f → IsTextures h.textures → surface_in (on_target h (Some t) f).textures t.index ≡ option_map f (surface_in h.textures t.index)
surface-after h t f k all = step (target-is h t (at h.textures.targets t.index) all refl)
  where
    step : TargetIs h t → surface_in (on_target h (Some t) f).textures t.index ≡ option_map f (surface_in h.textures t.index)
    step (not_taken e) = ap (λ (u : Stores). surface_in u.textures t.index) (none-changed h t f e) ∙ ap surface-of e ∙ sym (ap (λ o. option_map f (surface-of o)) e)
    step (flat i c e p) =
        let slots : List (Option TextureSlot) = h.textures.textures in
        let x : Texels = (f (surface c None)).color in
        let mid : Stores = row-of h (changed_at (slot_with x) i slots) in
        ap (λ (u : Stores). surface_in u.textures t.index) (color_back h t f i c e p)
        ∙ ap (λ o. surface-of (texels-of mid o)) e
        ∙ ap (λ o. surface-of (option_map with-none o)) (texels-put x c slots i p)
        ∙ ap (λ o. Some (surface x o)) (sym (no-depth f k c))
        ∙ sym (ap (λ o. option_map f (surface-of (texels-of h o))) e ∙ ap (λ o. option_map f (surface-of (option_map with-none o))) p)
    step (deep i j c d e p q ne) =
        let slots : List (Option TextureSlot) = h.textures.textures in
        let x : Texels = (f (surface c (Some d))).color in
        let y = some-depth f k c d in
        let row : List (Option TextureSlot) = changed_at (slot_with x) i slots in
        let mid : Stores = row-of h (changed_at (slot_with y.0) j row) in
        let p' : texels_in_row (changed_at (slot_with y.0) j row) i ≡ Some x = texels-beside y.0 row i j ne ∙ texels-put x c slots i p in
        let q' : texels_in_row (changed_at (slot_with y.0) j row) j ≡ Some y.0 = texels-put y.0 d row j (texels-beside x slots j i (λ n. ne (sym n)) ∙ q) in
        ap (λ (u : Stores). surface_in u.textures t.index) (both_back h t f i j c d y.0 e p q ne y.1)
        ∙ ap (λ o. surface-of (texels-of mid o)) e
        ∙ ap (λ o. surface-of (option_and_then (with_depth o) (texels_in_row (changed_at (slot_with y.0) j row) i))) q'
        ∙ ap (λ o. surface-of (option_and_then (with_depth (Some y.0)) o)) p'
        ∙ ap (λ o. Some (surface x o)) (sym y.1)
        ∙ sym (ap (λ o. option_map f (surface-of (texels-of h o))) e ∙ ap (λ o. option_map f (surface-of (option_and_then (with_depth o) (texels_in_row slots i)))) q ∙ ap (λ o. option_map f (surface-of (option_and_then (with_depth (Some d)) o))) p)
