-- The pixels of a surface in memory.
use Rattle.std.proofs.Common.{◌≡◌, ◌∙◌, ◌<◌, ℕ, zero, suc, List, [], ◌∷◌, length, slice_index_or, Option, Some, None, refl, sym, ap, arith}
use Rattle.std.specs.Prelude.{◌*◌, option_map}
use Rattle.std.specs.Option.{ForSome}
use Rattle.gfx_model.specs.Number.{zip_with, u32_at}
use Rattle.gfx_model.specs.Pixel.{Pixel}
use Rattle.gfx_model.specs.Vertex.{Color}
use Rattle.gfx_model.specs.World.{joined_pixels, pixels_of}
use Rattle.fix_math.specs.Seen.{texels_seen}
use Rattle.fix_math.specs.declared.picture.Texels.{Texels}
use Rattle.int_raster.specs.Seen.{surface_seen}
use Rattle.int_raster.specs.declared.surfaces.Surface.{Surface}
use Rattle.trace_laws.specs.History.{no_pixel}
use Rattle.frame_blame.specs.Marks.{word_at}
use Rattle.frame_blame.proofs.Blames.{length-mapped}

length-zip : {A B C : Type 0} (f : A → B → C) (xs : List A) (ys : List B) → length xs ≡ length ys → length (zip_with f xs ys) ≡ length xs
length-zip f [] ys e = refl
length-zip f (x ∷ xs) [] e = cc e
length-zip f (x ∷ xs) (y ∷ ys) e = ap suc (length-zip f xs ys (cc e))

-- depths are as many as colours
same-many : (s : Surface) (d : Texels) → (d.width ≡ s.color.width) × (d.height ≡ s.color.height) → length s.color.texels ≡ length d.texels
same-many s d same = s.color.whole ∙ ap (λ k. k * s.color.height) (sym same.0) ∙ ap (λ k. d.width * k) (sym same.1) ∙ sym d.whole

-- as many as colours
pub pixels-many : (s : Surface) → length (pixels_of (surface_seen s)) ≡ length s.color.texels
pixels-many s = go s.depth s.one_size
  where
    go : (o : Option Texels) → ForSome o (λ d. (d.width ≡ s.color.width) × (d.height ≡ s.color.height)) → length (joined_pixels s.color.texels (option_map texels_seen o)) ≡ length s.color.texels
    go None same = length-mapped _ s.color.texels
    go (Some d) same = length-zip _ s.color.texels d.texels (same-many s d (same d refl))

-- ---- depth words

no-word : (colors : List Color) (i : ℕ) → (slice_index_or (joined_pixels colors None) i no_pixel).depth ≡ None
no-word [] i = refl
no-word (c ∷ cs) zero = refl
no-word (c ∷ cs) (suc i) = no-word cs i

-- a pixel with a depth texel
abbrev deep-pixel : Color → Color → Pixel
deep-pixel c z = record { color = c; depth = Some (u32_at z 0) }

some-word : (colors depths : List Color) (i : ℕ) (other : Color) → length colors ≡ length depths → i < length colors → (slice_index_or (zip_with deep-pixel colors depths) i no_pixel).depth ≡ Some (u32_at (slice_index_or depths i other) 0)
some-word [] depths i other e lt = absurd (omega (arith, lt))
some-word (c ∷ cs) [] i other e lt = cc e
some-word (c ∷ cs) (z ∷ zs) zero other e lt = refl
some-word (c ∷ cs) (z ∷ zs) (suc i) other e lt = some-word cs zs i other (cc e) (omega (arith, lt))

-- of a surface without depths
pub word-none : (s : Surface) (i : ℕ) → s.depth ≡ None → word_at (surface_seen s) i ≡ None
word-none s i none = ap (λ o. (slice_index_or (joined_pixels s.color.texels (option_map texels_seen o)) i no_pixel).depth) none ∙ no-word s.color.texels i

-- of one with depths
pub word-some : (s : Surface) (d : Texels) (i : ℕ) (depths : List Color) (other : Color) → depths ≡ d.texels → i < length s.color.texels → s.depth ≡ Some d
    → Some (u32_at (slice_index_or depths i other) 0) ≡ word_at (surface_seen s) i
word-some s d i depths other are lt some =
    ap (λ (ts : List Color). Some (u32_at (slice_index_or ts i other) 0)) are
    ∙ sym (ap (λ o. (slice_index_or (joined_pixels s.color.texels (option_map texels_seen o)) i no_pixel).depth) some ∙ some-word s.color.texels d.texels i other (same-many s d (s.one_size d some)) lt)
