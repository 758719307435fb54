-- Pixels of a row that are stepped one after the other.
use Rattle.std.proofs.Common.{◌≡◌, ℕ, zero, suc, Bool, true, false, if◌then◌else◌, Option, Some, not, ◌^◌, ◌∷◌, refl, ◌+◌, ◌-◌, ◌*◌, ◌/◌, ◌%◌, ◌<◌, ◌≤◌, List, [], length, slice_index_or, slice_set, sym, ap, ◌∙◌, arith}
use Rattle.gfx_model.specs.Number.{map_from, u32_at}
use Rattle.gfx_model.specs.Vertex.{Color}
use Rattle.gfx_model.specs.Words.{is_blended, depth_test_of, writes_depth, on_stencil_fail, on_depth_fail, on_pass}
use Rattle.gfx_model.specs.Pixel.{Pixel, Shaded, blend, stored_channels, passes_stencil, passes_depth, stencil_by, stored_color, step_with_depth, pixel_step}
use Rattle.int_raster.specs.Places.{deep_pixel, deep_pixels, spanned, in_row}
use Rattle.gfx_model.specs.Raster.{fragment_at}
use Rattle.gfx_model.specs.World.{painted}
use Rattle.tri_cover.specs.declared.triangles.Setup.{Setup}
use Rattle.int_raster.specs.declared.lists.Prepared.{Prepared}
use Rattle.int_raster.specs.Seen.{paint_seen, facing_seen, step_seen, color_seen}
use Rattle.tri_cover.specs.Shown.{setup_seen}
use Rattle.int_raster.specs.Painted.{IsOpaque, bytes_of}
use Rattle.int_raster.proofs.Changes.{span_more}

-- the step of a column of a row is that of its place
pub at_place : {A : Type 0} (f : ℕ → ℕ → A → A) (start y x : ℕ) (p : A) → f x y p ≡ in_row start y f (start + x) p
at_place f start y x p =
    let column : x ≡ start + x - start = omega arith in
    (λ i. f (column i) y p)

-- one colour more
pub color_more : (f : ℕ → ℕ → Color → Color) (start y first x : ℕ) (old now : List Color) (c : Color) →
    now ≡ map_from (spanned (in_row start y f) (start + first) (start + x)) 0 old →
    first ≤ x → start + x < length old →
    c ≡ f x y (slice_index_or now (start + x) []) →
    slice_set now (start + x) c ≡ map_from (spanned (in_row start y f) (start + first) (start + (x + 1))) 0 old
color_more f start y first x old now c e a b h =
    let next : start + x + 1 ≡ start + (x + 1) = omega arith in
    span_more (in_row start y f) (start + first) (start + x) old now c [] e (omega arith) b (h ∙ at_place f start y x (slice_index_or now (start + x) []))
    ∙ ap (λ n. map_from (spanned (in_row start y f) (start + first) n) 0 old) next

-- ---- surfaces with depth

pub length-deep : (colors depths : List Color) → length depths ≡ length colors → length (deep_pixels colors depths) ≡ length colors
length-deep [] zs e = refl
length-deep (c ∷ cs) [] e = cc
length-deep (c ∷ cs) (z ∷ zs) e = ap suc (length-deep cs zs (omega (arith, e)))

deep-set : (colors depths : List Color) (i : ℕ) (c z : Color) → length depths ≡ length colors → deep_pixels (slice_set colors i c) (slice_set depths i z) ≡ slice_set (deep_pixels colors depths) i (deep_pixel c z)
deep-set [] zs i c z e = refl
deep-set (b ∷ bs) [] i c z e = cc
deep-set (b ∷ bs) (y ∷ ys) zero c z e = refl
deep-set (b ∷ bs) (y ∷ ys) (suc i) c z e = ap (λ ps. deep_pixel b y ∷ ps) (deep-set bs ys i c z (omega (arith, e)))

pub deep-get : (colors depths : List Color) (i : ℕ) → length depths ≡ length colors → slice_index_or (deep_pixels colors depths) i (deep_pixel [] []) ≡ deep_pixel (slice_index_or colors i []) (slice_index_or depths i [])
deep-get [] [] i e = refl
deep-get [] (z ∷ zs) i e = cc
deep-get (b ∷ bs) [] i e = cc
deep-get (b ∷ bs) (y ∷ ys) zero e = refl
deep-get (b ∷ bs) (y ∷ ys) (suc i) e = deep-get bs ys i (omega (arith, e))

-- one pixel more of a surface with depth
pub deep_more : (f : ℕ → ℕ → Pixel → Pixel) (start y first x : ℕ) (old now before deep : List Color) (c z : Color) →
    deep_pixels now deep ≡ map_from (spanned (in_row start y f) (start + first) (start + x)) 0 (deep_pixels old before) →
    first ≤ x → start + x < length old → length before ≡ length old → length now ≡ length old → length deep ≡ length before →
    deep_pixel c z ≡ f x y (deep_pixel (slice_index_or now (start + x) []) (slice_index_or deep (start + x) [])) →
    deep_pixels (slice_set now (start + x) c) (slice_set deep (start + x) z) ≡ map_from (spanned (in_row start y f) (start + first) (start + (x + 1))) 0 (deep_pixels old before)
deep_more f start y first x old now before deep c z e a b same as_long as_deep h =
    let next : start + x + 1 ≡ start + (x + 1) = omega arith in
    let here : length deep ≡ length now = as_deep ∙ same ∙ sym as_long in
    let inside : start + x < length (deep_pixels old before) = rw (length-deep old before same) b in
    deep-set now deep (start + x) c z here
    ∙ span_more (in_row start y f) (start + first) (start + x) (deep_pixels old before) (deep_pixels now deep) (deep_pixel c z) (deep_pixel [] []) e (omega arith) inside
    (h ∙ at_place f start y x (deep_pixel (slice_index_or now (start + x) []) (slice_index_or deep (start + x) [])) ∙ ap (in_row start y f (start + x)) (sym (deep-get now deep (start + x) here)))
    ∙ ap (λ n. map_from (spanned (in_row start y f) (start + first) n) 0 (deep_pixels old before)) next

-- ---- a step on a pixel with depth leaves one

abbrev IsDeep : Pixel → Type 0
IsDeep p = (word : ℕ) × (p.depth ≡ Some word)

deep_if : (a : Bool) (p q : Pixel) → IsDeep p → IsDeep q → IsDeep (if a then p else q)
deep_if true p q hp hq = hp
deep_if false p q hp hq = hq

stays_deep : (color : Color) (depth stencil : ℕ) (s : Shaded) (state word : ℕ) → IsDeep (step_with_depth color depth stencil s state word)
stays_deep color depth stencil s state word =
    deep_if (not (passes_stencil word stencil))
    (record { color = color; depth = Some (depth + 2 ^ 24 * stencil_by word (on_stencil_fail word) stencil) })
    (if not (passes_depth (depth_test_of state) s.depth depth)
    then record { color = color; depth = Some (depth + 2 ^ 24 * stencil_by word (on_depth_fail word) stencil) }
    else record { color = stored_color state s.color color; depth = Some ((if writes_depth state then s.depth else depth) + 2 ^ 24 * stencil_by word (on_pass word) stencil) })
    (depth + 2 ^ 24 * stencil_by word (on_stencil_fail word) stencil, refl)
    (deep_if (not (passes_depth (depth_test_of state) s.depth depth))
    (record { color = color; depth = Some (depth + 2 ^ 24 * stencil_by word (on_depth_fail word) stencil) })
    (record { color = stored_color state s.color color; depth = Some ((if writes_depth state then s.depth else depth) + 2 ^ 24 * stencil_by word (on_pass word) stencil) })
    (depth + 2 ^ 24 * stencil_by word (on_depth_fail word) stencil, refl)
    ((if writes_depth state then s.depth else depth) + 2 ^ 24 * stencil_by word (on_pass word) stencil, refl))

-- the pixel that is stored, its depth word as a texel, is the pixel after the step
pub stored_deep : (color z : Color) (depth : Option ℕ) (word : ℕ) (old : Color) (s : Shaded) (state stencil : ℕ) →
    record { color = color; depth = depth } ≡ pixel_step (record { color = old; depth = Some word }) s state stencil →
    ((w : ℕ) → depth ≡ Some w → u32_at z 0 ≡ w) →
    deep_pixel color z ≡ pixel_step (record { color = old; depth = Some word }) s state stencil
stored_deep color z depth word old s state stencil e h =
    let found : IsDeep (pixel_step (record { color = old; depth = Some word }) s state stencil) = stays_deep old (word % 2 ^ 24) (word / 2 ^ 24) s state stencil in
    let same : depth ≡ Some found.0 = ap (λ p. p.depth) e ∙ found.1 in
    (λ i. record { color = color; depth = (ap Some (h found.0 same) ∙ sym same) i }) ∙ e

pub stored_step : (d : Prepared) (t : Setup) (x y : ℕ) (color z : Color) (depth : Option ℕ) (word : ℕ) (old : Color) →
    record { color = color; depth = depth } ≡ step_seen d t x y (record { color = old; depth = Some word }) →
    ((w : ℕ) → depth ≡ Some w → u32_at z 0 ≡ w) →
    deep_pixel color z ≡ step_seen d t x y (record { color = old; depth = Some word })
stored_step d t x y color z depth word old e h =
    let fragment = fragment_at (facing_seen d t).triangle x y in
    stored_deep color z depth word old (record { color = painted (paint_seen d.paint) fragment; depth = fragment.depth }) d.state (facing_seen d t).stencil e h

-- ---- draws that store all channels as they are painted

if_false : {A : Type 0} (b : Bool) (u v : A) → b ≡ false → (if b then u else v) ≡ v
if_false true u v h = cc
if_false false u v h = refl

pub stored_opaque : (state : ℕ) (color old : Color) → IsOpaque state → bytes_of color ≡ stored_color state color old
stored_opaque state color old h =
    let same : blend state color old ≡ color = if_false (is_blended state) _ color h.plain in
    sym (λ i. stored_channels (h.channels i) (same i) old)

pub opaque_color : (d : Prepared) (t : Setup) (x y : ℕ) (color old : Color) → IsOpaque d.state → color ≡ painted (paint_seen d.paint) (fragment_at (setup_seen t).triangle x y) →
    bytes_of color ≡ color_seen d t x y old
opaque_color d t x y color old h e = stored_opaque d.state color old h ∙ ap (λ c. stored_color d.state c old) e
