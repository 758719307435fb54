-- A pixel of a surface by its texels.
use Rattle.std.proofs.Common.{◌≡◌, ℕ, zero, suc, ◌+◌, ◌<◌, Bool, true, false, cond, List, [], ◌∷◌, length, slice_index_or, Option, Some, None, refl, ap, arith}
use Rattle.std.specs.Prelude.{◌*◌, nat_lt, option_map, bytes_eq, fold}
use Rattle.std.proofs.lemmas.Slice.Eq.{bytes_eq-Decides}
use Rattle.std.proofs.lemmas.Bool.{eqb-true, ltb-true, and_parts, both_ways}
use Rattle.gfx_model.specs.Number.{u32_at}
use Rattle.gfx_model.specs.Vertex.{Color}
use Rattle.gfx_model.specs.Raster.{Texels, no_color}
use Rattle.gfx_model.specs.Pixel.{Pixel}
use Rattle.gfx_model.specs.World.{Surface, joined_pixels, pixels_of}
use Rattle.trace_laws.specs.History.{no_pixel, pixel_at}
use Rattle.trace_laws.specs.Laws.{HasPixel}
use Rattle.trace_laws.proofs.Pixels.{deep_pixels}
use Rattle.target_laws.specs.Targets.{texel_pixel, has_pixel, is_same_word, is_same_pixel, left_pixel, left_stroke, after_target_stroke}

-- ---- by texels and by pixels

flat-same : (i : ℕ) (cs : List Color) → record { color = slice_index_or cs i no_color; depth = None } ≡ slice_index_or (joined_pixels cs None) i no_pixel
flat-same i [] = refl
flat-same zero (c ∷ cs) = refl
flat-same (suc i) (c ∷ cs) = flat-same i cs

deep-same : (i : ℕ) (cs zs : List Color) → i < length (deep_pixels cs zs) → record { color = slice_index_or cs i no_color; depth = Some (u32_at (slice_index_or zs i no_color) 0) } ≡ slice_index_or (deep_pixels cs zs) i no_pixel
deep-same i [] zs h = absurd (omega (arith, h))
deep-same i (c ∷ cs) [] h = absurd (omega (arith, h))
deep-same zero (c ∷ cs) (z ∷ zs) h = refl
deep-same (suc i) (c ∷ cs) (z ∷ zs) h = deep-same i cs zs (omega (arith, h))

joined-same : (i : ℕ) (cs : List Color) (o : Option Texels) → i < length (joined_pixels cs o)
    → record { color = slice_index_or cs i no_color; depth = option_map (λ d. u32_at (slice_index_or d.texels i no_color) 0) o } ≡ slice_index_or (joined_pixels cs o) i no_pixel
joined-same i cs None h = flat-same i cs
joined-same i cs (Some d) h = deep-same i cs d.texels h

pub texel-same : (s : Surface) (x y : ℕ) → HasPixel s x y → texel_pixel s x y ≡ pixel_at s x y
texel-same s x y has = joined-same (y * s.color.width + x) s.color.texels s.depth has.there

-- ---- a test for a pixel

pub has-there : (s : Surface) (x y : ℕ) → has_pixel (Some s) x y ≡ true → HasPixel s x y
has-there s x y h =
    let both = and_parts (nat_lt x s.color.width) (nat_lt (y * s.color.width + x) (length (pixels_of s))) h in
    record { column = ltb-true x s.color.width both.0; there = ltb-true (y * s.color.width + x) (length (pixels_of s)) both.1 }

-- ---- pixels that are the same

word-same : (a b : Option ℕ) → is_same_word a b ≡ true → a ≡ b
word-same None None h = refl
word-same (Some a) (Some b) h = ap Some (eqb-true a b h)
word-same None (Some b) h = absurd (both_ways false refl h)
word-same (Some a) None h = absurd (both_ways false refl h)

pixel-same : (p q : Pixel) → is_same_pixel p q ≡ true → p ≡ q
pixel-same p q h =
    let both = and_parts (bytes_eq p.color q.color) (is_same_word p.depth q.depth) h in
    let color : p.color ≡ q.color = (bytes_eq-Decides p.color q.color).0 both.0 in
    let depth : p.depth ≡ q.depth = word-same p.depth q.depth both.1 in
    λ i. record { color = color i; depth = depth i }

pub left-goes : (p q : Pixel) → fold after_target_stroke p (left_pixel p q) ≡ q
left-goes p q = go (is_same_pixel p q) refl
  where
    go : (b : Bool) → is_same_pixel p q ≡ b → fold after_target_stroke p (cond b [] (left_stroke q ∷ [])) ≡ q
    go true e = pixel-same p q e
    go false e = refl
