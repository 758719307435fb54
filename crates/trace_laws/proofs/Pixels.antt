-- A pixel of a surface whose pixels are changed each by itself.
use Rattle.std.proofs.Common.{◌≡◌, ◌∙◌, ℕ, zero, suc, ◌+◌, ◌<◌, List, [], ◌∷◌, length, slice_index_or, Option, Some, None, refl, sym, ap, subst, arith}
use Rattle.std.specs.Prelude.{◌*◌, ◌/◌, ◌%◌}
use Rattle.std.proofs.lemmas.Nat.{mod-mul-add, div-mul-add}
use Rattle.gfx_model.specs.Number.{u32_at, zip_with, map_from}
use Rattle.gfx_model.specs.Vertex.{Color}
use Rattle.gfx_model.specs.Raster.{Texels, no_color}
use Rattle.gfx_model.specs.Pixel.{Pixel}
use Rattle.gfx_model.specs.World.{Surface, joined_pixels, pixels_of, on_each_pixel}
use Rattle.pass_laws.proofs.Pixels.{Keeps, joined_back, fits_joined, fits_changed}
use Rattle.trace_laws.specs.History.{no_pixel, pixel_at}
use Rattle.trace_laws.specs.Laws.{HasPixel}

-- ---- the pixels of a surface that is changed

pub pixels-changed : (f : ℕ → ℕ → Pixel → Pixel) → Keeps f → (s : Surface)
    → pixels_of (on_each_pixel f s) ≡ map_from (λ i p. f (i % s.color.width) (i / s.color.width) p) 0 (pixels_of s)
pixels-changed f k s =
    joined_back s.depth (map_from (λ i p. f (i % s.color.width) (i / s.color.width) p) 0 (pixels_of s))
    (fits_changed f k s.depth s.color.width 0 (pixels_of s) (fits_joined s.color.texels s.depth))

-- ---- one of them

at-changed : {A : Type 0} (f : ℕ → A → A) (n i : ℕ) (xs : List A) (d : A) → i < length xs → slice_index_or (map_from f n xs) i d ≡ f (n + i) (slice_index_or xs i d)
at-changed f n i [] d h = absurd (omega (arith, h))
at-changed f n zero (x ∷ xs) d h = ap (λ k. f k x) (omega arith)
at-changed f n (suc i) (x ∷ xs) d h = at-changed f (n + 1) i xs d (omega (arith, h)) ∙ ap (λ k. f k (slice_index_or xs i d)) (omega arith)

length-changed : {A : Type 0} (f : ℕ → A → A) (n : ℕ) (xs : List A) → length (map_from f n xs) ≡ length xs
length-changed f n [] = refl
length-changed f n (x ∷ xs) = ap suc (length-changed f (n + 1) xs)

pub pixel-changed : (f : ℕ → ℕ → Pixel → Pixel) → Keeps f → (s : Surface) (x y : ℕ) → HasPixel s x y → pixel_at (on_each_pixel f s) x y ≡ f x y (pixel_at s x y)
pixel-changed f k s x y has =
    let w : ℕ = s.color.width in
    let i : ℕ = y * w + x in
    let g : ℕ → Pixel → Pixel = λ j p. f (j % w) (j / w) p in
    let from_zero : 0 + i ≡ i = omega arith in
    ap (λ ps. slice_index_or ps i no_pixel) (pixels-changed f k s)
    ∙ at-changed g 0 i (pixels_of s) no_pixel has.there
    ∙ ap (λ j. g j (pixel_at s x y)) from_zero
    ∙ ap (λ a. f a (i / w) (pixel_at s x y)) (mod-mul-add y w x has.column)
    ∙ ap (λ b. f x b (pixel_at s x y)) (div-mul-add y w x has.column)

pub has-changed : (f : ℕ → ℕ → Pixel → Pixel) → Keeps f → (s : Surface) (x y : ℕ) → HasPixel s x y → HasPixel (on_each_pixel f s) x y
has-changed f k s x y has =
    let same : length (pixels_of (on_each_pixel f s)) ≡ length (pixels_of s) = ap length (pixels-changed f k s) ∙ length-changed (λ i p. f (i % s.color.width) (i / s.color.width) p) 0 (pixels_of s) in
    record { column = has.column; there = subst (λ n. y * s.color.width + x < n) (sym same) has.there }

-- ---- its colour

abbrev pub deep_pixels : List Color → List Color → List Pixel
deep_pixels cs zs = zip_with (λ c z. record { color = c; depth = Some (u32_at z 0) }) cs zs

color-zip : (i : ℕ) (cs zs : List Color) → i < length (deep_pixels cs zs) → (slice_index_or (deep_pixels cs zs) i no_pixel).color ≡ slice_index_or cs i no_color
color-zip i [] zs h = absurd (omega (arith, h))
color-zip i (c ∷ cs) [] h = absurd (omega (arith, h))
color-zip zero (c ∷ cs) (z ∷ zs) h = refl
color-zip (suc i) (c ∷ cs) (z ∷ zs) h = color-zip i cs zs (omega (arith, h))

color-flat : (i : ℕ) (cs : List Color) → (slice_index_or (joined_pixels cs None) i no_pixel).color ≡ slice_index_or cs i no_color
color-flat i [] = refl
color-flat zero (c ∷ cs) = refl
color-flat (suc i) (c ∷ cs) = color-flat i cs

color-joined : (i : ℕ) (cs : List Color) (o : Option Texels) → i < length (joined_pixels cs o) → (slice_index_or (joined_pixels cs o) i no_pixel).color ≡ slice_index_or cs i no_color
color-joined i cs None h = color-flat i cs
color-joined i cs (Some d) h = color-zip i cs d.texels h

pub pixel-color : (s : Surface) (x y : ℕ) → HasPixel s x y → (pixel_at s x y).color ≡ slice_index_or s.color.texels (y * s.color.width + x) no_color
pixel-color s x y has = color-joined (y * s.color.width + x) s.color.texels s.depth has.there
