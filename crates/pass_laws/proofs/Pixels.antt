-- Two changes of each pixel in turn, and changes that never change the same pixel.
use Rattle.std.proofs.Common.{◌≡◌, ℕ, ◌+◌, Bool, true, false, List, [], ◌∷◌, map, Option, Some, None, refl, sym, ap, ◌∙◌, arith}
use Rattle.std.proofs.lemmas.Bool.{both_ways}
use Rattle.std.specs.Prelude.{◌&&◌, ◌/◌, ◌%◌, if◌then◌else◌, option_map}
use Rattle.std.specs.List.{AllByRecursion}
use Rattle.gfx_model.specs.Number.{u32_at, zip_with, map_from}
use Rattle.gfx_model.specs.Vertex.{Color}
use Rattle.gfx_model.specs.Raster.{Texels}
use Rattle.gfx_model.specs.Pixel.{Pixel}
use Rattle.gfx_model.specs.World.{Surface, depth_texel, depth_bytes, joined_pixels, pixels_of, with_texel_list, surface_with, on_each_pixel}
use Rattle.gfx_model.proofs.PixelLaws.{map_from-map_from}

-- a pixel has a depth word where there are depth texels, and none where there are none
abbrev pub Fits : Option Texels → Pixel → Type 0
Fits None p = p.depth ≡ None
Fits (Some d) p = (w : ℕ) × (p.depth ≡ Some w)

abbrev pub Keeps : (ℕ → ℕ → Pixel → Pixel) → Type 0
Keeps f = (x y : ℕ) (p : Pixel) (o : Option Texels) → Fits o p → Fits o (f x y p)

word_back : (w : ℕ) → u32_at (depth_texel w) 0 ≡ w
word_back w = omega arith

flat_back : (ps : List Pixel) → AllByRecursion (Fits None) ps → joined_pixels (map (λ p. p.color) ps) None ≡ ps
flat_back [] a = refl
flat_back (p ∷ ps) a = λ i. record { color = p.color; depth = sym a.0 i } ∷ flat_back ps a.1 i

deep_back : (d : Texels) (ps : List Pixel) → AllByRecursion (Fits (Some d)) ps
    → zip_with (λ c z. record { color = c; depth = Some (u32_at z 0) }) (map (λ p. p.color) ps) (map (λ p. depth_bytes p.depth) ps) ≡ ps
deep_back d [] a = refl
deep_back d (p ∷ ps) a = λ i. record { color = p.color; depth = one i } ∷ deep_back d ps a.1 i
  where
    one : Some (u32_at (depth_bytes p.depth) 0) ≡ p.depth
    one = ap (λ o. Some (u32_at (depth_bytes o) 0)) a.0.1 ∙ ap Some (word_back a.0.0) ∙ sym a.0.1

pub joined_back : (o : Option Texels) (ps : List Pixel) → AllByRecursion (Fits o) ps
    → joined_pixels (map (λ p. p.color) ps) (option_map (with_texel_list (map (λ p. depth_bytes p.depth) ps)) o) ≡ ps
joined_back None ps a = flat_back ps a
joined_back (Some d) ps a = deep_back d ps a

-- the pixels of a surface made of pixels
pixels_back : (ps : List Pixel) (s : Surface) → AllByRecursion (Fits s.depth) ps → pixels_of (surface_with ps s) ≡ ps
pixels_back ps s a = joined_back s.depth ps a

put_twice : (a b : List Color) (o : Option Texels) → option_map (with_texel_list b) (option_map (with_texel_list a) o) ≡ option_map (with_texel_list b) o
put_twice a b None = refl
put_twice a b (Some t) = refl

with_twice : (ps qs : List Pixel) (s : Surface) → surface_with qs (surface_with ps s) ≡ surface_with qs s
with_twice ps qs s = λ i. record {
  color = with_texel_list (map (λ p. p.color) qs) s.color;
  depth = put_twice (map (λ p. depth_bytes p.depth) ps) (map (λ p. depth_bytes p.depth) qs) s.depth i;
}

fits_flat : (cs : List Color) → AllByRecursion (Fits None) (joined_pixels cs None)
fits_flat [] = tt
fits_flat (c ∷ cs) = (refl, fits_flat cs)

fits_deep : (d : Texels) (cs zs : List Color) → AllByRecursion (Fits (Some d)) (zip_with (λ c z. record { color = c; depth = Some (u32_at z 0) }) cs zs)
fits_deep d [] zs = tt
fits_deep d (c ∷ cs) [] = tt
fits_deep d (c ∷ cs) (z ∷ zs) = ((u32_at z 0, refl), fits_deep d cs zs)

pub fits_joined : (cs : List Color) (o : Option Texels) → AllByRecursion (Fits o) (joined_pixels cs o)
fits_joined cs None = fits_flat cs
fits_joined cs (Some d) = fits_deep d cs d.texels

pub fits_changed : (f : ℕ → ℕ → Pixel → Pixel) → Keeps f → (o : Option Texels) (w n : ℕ) (ps : List Pixel) → AllByRecursion (Fits o) ps → AllByRecursion (Fits o) (map_from (λ i p. f (i % w) (i / w) p) n ps)
fits_changed f k o w n [] a = tt
fits_changed f k o w n (p ∷ ps) a = (k (n % w) (n / w) p o a.0, fits_changed f k o w (n + 1) ps a.1)

-- two changes of each pixel in turn
pub each_twice : (f g : ℕ → ℕ → Pixel → Pixel) → Keeps f → (s : Surface) → on_each_pixel g (on_each_pixel f s) ≡ on_each_pixel (λ x y p. g x y (f x y p)) s
each_twice f g k s =
    ap (λ qs. surface_with (map_from after 0 qs) (surface_with ps s)) (pixels_back ps s (fits_changed f k s.depth s.color.width 0 (pixels_of s) (fits_joined s.color.texels s.depth)))
    ∙ with_twice ps (map_from after 0 ps) s
    ∙ ap (λ qs. surface_with qs s) (map_from-map_from before after 0 (pixels_of s))
  where
    before : ℕ → Pixel → Pixel
    before i p = f (i % s.color.width) (i / s.color.width) p

    after : ℕ → Pixel → Pixel
    after i p = g (i % s.color.width) (i / s.color.width) p

    ps : List Pixel
    ps = map_from before 0 (pixels_of s)

-- changes that may be made in either order at each pixel
pub each_apart : (f g : ℕ → ℕ → Pixel → Pixel) → Keeps f → Keeps g → ((x y : ℕ) (p : Pixel) → g x y (f x y p) ≡ f x y (g x y p)) → (s : Surface)
    → on_each_pixel g (on_each_pixel f s) ≡ on_each_pixel f (on_each_pixel g s)
each_apart f g kf kg e s = each_twice f g kf s ∙ (λ i. on_each_pixel (λ x y p. e x y p i) s) ∙ sym (each_twice g f kg s)

-- changes under two tests that never both hold
pub tested_apart : (a b : Bool) (f g : Pixel → Pixel) (p : Pixel) → (a && b) ≡ false
    → (if b then g (if a then f p else p) else (if a then f p else p)) ≡ (if a then f (if b then g p else p) else (if b then g p else p))
tested_apart true true f g p e = absurd (both_ways true e refl)
tested_apart true false f g p e = refl
tested_apart false b f g p e = refl

pub tested_keeps : (b : Bool) (q p : Pixel) (o : Option Texels) → Fits o q → Fits o p → Fits o (if b then q else p)
tested_keeps true q p o fq fp = fq
tested_keeps false q p o fq fp = fp
