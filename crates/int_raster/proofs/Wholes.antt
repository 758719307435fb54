-- A surface whose pixels are changed, as its textures.
use Rattle.std.proofs.Common.{◌≡◌, ℕ, suc, ◌/◌, ◌%◌, List, [], ◌∷◌, ◌++◌, take, drop, length, slice_index, map, refl, ap, sym, ◌∙◌, arith}
use Rattle.gfx_model.specs.Number.{map_from, u32_at}
use Rattle.gfx_model.specs.Vertex.{Color}
use Rattle.gfx_model.specs.Pixel.{Pixel}
use Rattle.gfx_model.specs.World.{depth_texel, depth_bytes}
use Rattle.fix_math.specs.Bytes.{IsTexel, AreTexels}
use Rattle.fix_math.specs.Lending.{refilled}
use Rattle.std.proofs.lemmas.List.{take_at}
use Rattle.int_raster.specs.Bands.{deep, flat_after, deep_after}
use Rattle.int_raster.specs.Places.{flat_pixels, deep_pixels, by_place}

flat_colors : (cs : List Color) → map (λ p. p.color) (flat_pixels cs) ≡ cs
flat_colors [] = refl
flat_colors (c ∷ cs) = ap (λ ds. c ∷ ds) (flat_colors cs)

pub whole_flat : (w : ℕ) (old new : List Color) (g : ℕ → ℕ → Pixel → Pixel) → flat_pixels new ≡ map_from (by_place w g) 0 (flat_pixels old) → new ≡ flat_after w g old
whole_flat w old new g e = sym (flat_colors new) ∙ ap (map (λ p. p.color)) e

deep_colors : (cs zs : List Color) → length zs ≡ length cs → map (λ p. p.color) (deep_pixels cs zs) ≡ cs
deep_colors [] zs e = refl
deep_colors (c ∷ cs) [] e = cc
deep_colors (c ∷ cs) (z ∷ zs) e = ap (λ ds. c ∷ ds) (deep_colors cs zs (omega (arith, e)))

pub four : (z : Color) → length z ≡ 4 → z ≡ slice_index z 0 ∷ slice_index z 1 ∷ slice_index z 2 ∷ slice_index z 3 ∷ []
four [] e = cc
four (a ∷ []) e = absurd (omega (arith, e))
four (a ∷ b ∷ []) e = absurd (omega (arith, e))
four (a ∷ b ∷ c ∷ []) e = absurd (omega (arith, e))
four (a ∷ b ∷ c ∷ d ∷ []) e = refl
four (a ∷ b ∷ c ∷ d ∷ f ∷ rest) e = absurd (omega (arith, e))

texel_again : (z : Color) → IsTexel z → depth_texel (u32_at z 0) ≡ z
texel_again z h =
    let b0 = h.bytes 0 (omega arith) in
    let b1 = h.bytes 1 (omega arith) in
    let b2 = h.bytes 2 (omega arith) in
    let b3 = h.bytes 3 (omega arith) in
    let e0 : u32_at z 0 % 256 ≡ slice_index z 0 = omega (arith, b0, b1, b2, b3) in
    let e1 : u32_at z 0 / 256 % 256 ≡ slice_index z 1 = omega (arith, b0, b1, b2, b3) in
    let e2 : u32_at z 0 / 65536 % 256 ≡ slice_index z 2 = omega (arith, b0, b1, b2, b3) in
    let e3 : u32_at z 0 / 16777216 ≡ slice_index z 3 = omega (arith, b0, b1, b2, b3) in
    (λ i. e0 i ∷ e1 i ∷ e2 i ∷ e3 i ∷ []) ∙ sym (four z h.four)

deep_depths : (cs zs : List Color) → length zs ≡ length cs → AreTexels zs → map (λ p. depth_bytes p.depth) (deep_pixels cs zs) ≡ zs
deep_depths [] [] e h = refl
deep_depths [] (z ∷ zs) e h = cc
deep_depths (c ∷ cs) [] e h = cc
deep_depths (c ∷ cs) (z ∷ zs) e h = (λ i. texel_again z (h 0 (omega arith)) i ∷ deep_depths cs zs (omega (arith, e)) (λ k b. h (suc k) (omega (arith, b))) i)

pub whole_deep : (w : ℕ) (old new before after : List Color) (g : ℕ → ℕ → Pixel → Pixel) → deep_pixels new after ≡ map_from (by_place w g) 0 (deep_pixels old before) → length after ≡ length new → AreTexels after →
    deep new after ≡ deep_after w g (deep old before)
whole_deep w old new before after g e l b =
    let texels : new ≡ map (λ p. p.color) (map_from (by_place w g) 0 (deep_pixels old before)) = sym (deep_colors new after l) ∙ ap (map (λ p. p.color)) e in
    let depths : after ≡ map (λ p. depth_bytes p.depth) (map_from (by_place w g) 0 (deep_pixels old before)) = sym (deep_depths new after l b) ∙ ap (map (λ p. depth_bytes p.depth)) e in
    (λ i. deep (texels i) (depths i))

-- a list that was lent whole and comes back in its length
pub refill : (s w : List Color) → length w ≡ length s → refilled s w ≡ w
refill s w e = ap (λ n. take n (w ++ drop (length w) s)) (sym e) ∙ take_at w (drop (length w) s) (length w) refl
