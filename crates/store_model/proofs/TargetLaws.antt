-- The texels of a frame buffer's textures, taken out and put back, as they were or changed.
use Rattle.std.proofs.Common.{◌≡◌, ◌≢◌, ℕ, Bool, true, false, List, Option, Some, None, refl, sym, ap, ◌∙◌, arith}
use Rattle.std.specs.Prelude.{option_map, option_and_then, ◌||◌, ◌==◌}
use Rattle.std.proofs.lemmas.Option.{none-some, same_Some}
use Rattle.gfx_model.specs.Raster.{Texels}
use Rattle.store_model.specs.Slots.{at, changed_at}
use Rattle.store_model.specs.Textures.{Held, here, taken, texels_in, TextureSlot, TargetSlot, Textures, slot_texels, texels_in_row, texels_at, changed_held, with_texels_here, changed_texels, can_attach_at, with_depth, attached_texels, target_texels, slot_out, slot_with, slot_holds, is_index, depth_out, depth_back, attached_out, attached_back, out_for, target_out, back_for, target_back, changed_depth, changed_for, changed_target, IsTextures}
use Rattle.store_model.proofs.SlotLaws.{changed_twice, changed_apart, changed_as, changed_nothing}
use Rattle.store_model.proofs.AttachLaws.{apart_of, at_beside}

-- ---- one texture

-- texels that are here, put back after a change, are changed in their place
here_changed : (change : Texels → Texels) (s : TextureSlot) (t : Texels) → slot_texels s ≡ Some t → slot_with (change t) s ≡ with_texels_here change s
here_changed change s t e = by_held s.held e
  where
    by_held : (held : Held) → texels_in held ≡ Some t → record s { held = here (change t) } ≡ record s { held = changed_held change held }
    by_held (here u) e = ap (λ v. record s { held = here (change v) }) (sym (same_Some u t e))
    by_held (taken width height) e = absurd (none-some t e)

slot_texels_of : (o : Option TextureSlot) (t : Texels) (s : TextureSlot) → option_and_then slot_texels o ≡ Some t → o ≡ Some s → slot_texels s ≡ Some t
slot_texels_of o t s e is = sym (ap (option_and_then slot_texels) is) ∙ e

-- a texture of a row, taken out and put back changed
row_changed : (change : Texels → Texels) (slots : List (Option TextureSlot)) (i : ℕ) (t : Texels) → texels_in_row slots i ≡ Some t
    → changed_at (slot_with (change t)) i (changed_at slot_out i slots) ≡ changed_at (with_texels_here change) i slots
row_changed change slots i t e =
    changed_twice slot_out (slot_with (change t)) slots i
    ∙ changed_as (λ s. slot_with (change t) (slot_out s)) (with_texels_here change) slots i (λ s is. here_changed change s t (slot_texels_of (at slots i) t s e is))

-- ---- a frame buffer's textures

-- what is found of two textures
parts : (x y : Option Texels) (c : Texels) (o : Option Texels) → option_and_then (with_depth y) x ≡ Some (c, o) → (d : Texels) × (x ≡ Some c) × (y ≡ Some d) × (o ≡ Some d)
parts None y c o e = absurd (none-some (c, o) e)
parts (Some x) None c o e = absurd (none-some (c, o) e)
parts (Some x) (Some y) c o e =
    let pair : Texels × Option Texels = (x, Some y) in
    let all : Texels × Option Texels = (c, o) in
    let same : pair ≡ all = same_Some pair all e in (y, ap (λ p. Some p.0) same, refl, sym (ap (λ p. p.1) same))

-- what is found of a colour texture alone
only : (x : Option Texels) (c : Texels) (o : Option Texels) → option_map {U = Texels × Option Texels} (λ t. (t, None)) x ≡ Some (c, o) → x ≡ Some c
only None c o e = absurd (none-some (c, o) e)
only (Some x) c o e =
    let pair : Texels × Option Texels = (x, None) in
    let all : Texels × Option Texels = (c, o) in
    let same : pair ≡ all = same_Some pair all e in ap (λ p. Some p.0) same

-- the textures of a row after texels were taken out and put back changed
attached_changed : (color depth : Texels → Texels) (t : TargetSlot) (slots : List (Option TextureSlot)) (c : Texels) (o : Option Texels) → can_attach_at slots t.color t.depth ≡ true
    → attached_texels slots t.color t.depth ≡ Some (c, o)
    → (h : Textures) → h.textures ≡ slots
    → record h { textures = attached_back t (color c) (option_map depth o) (attached_out t slots) } ≡ changed_depth t.depth depth (record h { textures = changed_at (with_texels_here color) t.color slots })
attached_changed color depth t slots c o fits found h is = by_depth t.depth o fits found
  where
    by_depth : (place : Option ℕ) (p : Option Texels) → can_attach_at slots t.color place ≡ true → attached_texels slots t.color place ≡ Some (c, p)
        → record h { textures = attached_back (record { color = t.color; depth = place }) (color c) (option_map depth p) (attached_out (record { color = t.color; depth = place }) slots) }
        ≡ changed_depth place depth (record h { textures = changed_at (with_texels_here color) t.color slots })
    by_depth None p fit e = ap (λ x. record h { textures = x }) (row_changed color slots t.color c (only (texels_in_row slots t.color) c p e))
    by_depth (Some j) p fit e =
        let all : (d : Texels) × (texels_in_row slots t.color ≡ Some c) × (texels_in_row slots j ≡ Some d) × (p ≡ Some d) = parts (texels_in_row slots t.color) (texels_in_row slots j) c p e in
        let ne : j ≢ t.color = apart_of slots t.color j fit in
        let first : List (Option TextureSlot) = changed_at (with_texels_here color) t.color slots in
        let depth_here : texels_in_row first j ≡ Some all.0 = ap (option_and_then slot_texels) (at_beside slots t.color j (with_texels_here color) ne) ∙ all.2 in
        ap (λ q. record h { textures = depth_back (Some j) (option_map depth q) (changed_at (slot_with (color c)) t.color (changed_at slot_out j (changed_at slot_out t.color slots))) }) all.3
        ∙ ap (λ x. record h { textures = changed_at (slot_with (depth all.0)) j x })
        (changed_apart slot_out (slot_with (color c)) (changed_at slot_out t.color slots) j t.color ne
        ∙ ap (changed_at slot_out j) (row_changed color slots t.color c all.1))
        ∙ ap (λ x. record h { textures = x }) (row_changed depth first j all.0 depth_here)

-- texels that are taken out of a frame buffer and put back changed are changed in their place
pub put_changed : (h : Textures) (i : ℕ) (c : Texels) (o : Option Texels) (color depth : Texels → Texels) → IsTextures h → target_texels h i ≡ Some (c, o)
    → target_back i (color c) (option_map depth o) (target_out i h) ≡ changed_target i color depth h
put_changed h i c o color depth all found = by_target (at h.targets i) refl found
  where
    out : (t : Option TargetSlot) (p : Option (Texels × Option Texels)) → p ≡ Some (c, o) → out_for p t h ≡ out_for (Some (c, o)) t h
    out t p e = ap (λ x. out_for x t h) e

    by_target : (t : Option TargetSlot) → at h.targets i ≡ t → option_and_then (λ x. attached_texels h.textures x.color x.depth) t ≡ Some (c, o)
        → target_back i (color c) (option_map depth o) (target_out i h) ≡ changed_target i color depth h
    by_target None e f = absurd (none-some (c, o) f)
    by_target (Some t) e f =
        let is_out : target_out i h ≡ record h { textures = attached_out t h.textures } = out (at h.targets i) (target_texels h i) found ∙ ap (λ x. out_for (Some (c, o)) x h) e in
        ap (target_back i (color c) (option_map depth o)) is_out
        ∙ ap (λ x. back_for x (color c) (option_map depth o) (record h { textures = attached_out t h.textures })) e
        ∙ attached_changed color depth t h.textures c o (all.attached i t e) f h refl
        ∙ sym (ap (λ x. changed_for x color depth h) e)

-- ---- nothing changed

same_held : (held : Held) → changed_held (λ t. t) held ≡ held
same_held (here t) = refl
same_held (taken width height) = refl

nothing_changed : (i : ℕ) (h : Textures) → changed_texels (λ t. t) i h ≡ h
nothing_changed i h = ap (λ x. record h { textures = x }) (changed_nothing (with_texels_here (λ t. t)) h.textures i (λ s e. ap (λ x. record s { held = x }) (same_held s.held)))

-- texels that are taken out of a frame buffer and put back leave the textures as they were
pub put_back : (h : Textures) (i : ℕ) (c : Texels) (o : Option Texels) → IsTextures h → target_texels h i ≡ Some (c, o) → target_back i c o (target_out i h) ≡ h
put_back h i c o all found = ap (λ p. target_back i c p (target_out i h)) (sym (same_map o)) ∙ put_changed h i c o (λ t. t) (λ t. t) all found ∙ by_target (at h.targets i)
  where
    same_map : (p : Option Texels) → option_map (λ t. t) p ≡ p
    same_map None = refl
    same_map (Some t) = refl

    by_depth : (place : Option ℕ) (x : Textures) → changed_depth place (λ t. t) x ≡ x
    by_depth None x = refl
    by_depth (Some j) x = nothing_changed j x

    by_target : (t : Option TargetSlot) → changed_for t (λ x. x) (λ x. x) h ≡ h
    by_target None = refl
    by_target (Some t) = by_depth t.depth (changed_texels (λ x. x) t.color h) ∙ nothing_changed t.color h

-- the two textures of a frame buffer differ by their formats
pub two_textures : (h : Textures) (i : ℕ) (t : TargetSlot) (depth : ℕ) → IsTextures h → at h.targets i ≡ Some t → t.depth ≡ Some depth → depth ≢ t.color
two_textures h i t depth all there is = apart_of h.textures t.color depth (ap (can_attach_at h.textures t.color) (sym is) ∙ all.attached i t there)

-- the texels of other textures stay while those of a frame buffer are taken out
pub others_stay : (h : Textures) (i j : ℕ) → slot_holds j (at h.targets i) ≡ false → texels_at (target_out i h) j ≡ texels_at h j
others_stay h i j free = by_target (at h.targets i) (target_texels h i) free
  where
    apart : (a b : ℕ) → (a == b) ≡ false → a ≢ b
    apart a b e = grind (arith, e)

    neither : (a b : Bool) → (a || b) ≡ false → (a ≡ false) × (b ≡ false)
    neither true b e = cc
    neither false b e = (refl, e)

    beside : (slots : List (Option TextureSlot)) (place : ℕ) → (j == place) ≡ false → texels_in_row (changed_at slot_out place slots) j ≡ texels_in_row slots j
    beside slots place e = ap (option_and_then slot_texels) (at_beside slots place j slot_out (apart j place e))

    beside_depth : (slots : List (Option TextureSlot)) (place : Option ℕ) → is_index j place ≡ false → texels_in_row (depth_out place slots) j ≡ texels_in_row slots j
    beside_depth slots None e = refl
    beside_depth slots (Some depth) e = beside slots depth e

    by_target : (o : Option TargetSlot) (p : Option (Texels × Option Texels)) → slot_holds j o ≡ false → texels_at (out_for p o h) j ≡ texels_at h j
    by_target None None e = refl
    by_target None (Some p) e = refl
    by_target (Some t) None e = refl
    by_target (Some t) (Some p) e =
        let both : ((j == t.color) ≡ false) × (is_index j t.depth ≡ false) = neither (j == t.color) (is_index j t.depth) e in
        beside_depth (changed_at slot_out t.color h.textures) t.depth both.1 ∙ beside h.textures t.color both.0
