-- What a pixel of a frame buffer goes through in a frame.
use Rattle.std.specs.Prelude.{ℕ, ◌+◌, ◌*◌, Bool, true, false, ◌&&◌, ◌==◌, nat_lt, if◌then◌else◌, List, [], ◌∷◌, ◌++◌, map, length, fold, Option, Some, None, slice_index_or, option_map, bytes_eq}
use Rattle.gfx_model.specs.Number.{u32_at}
use Rattle.gfx_model.specs.Words.{Handle}
use Rattle.gfx_model.specs.Raster.{no_color}
use Rattle.gfx_model.specs.Pixel.{Pixel}
use Rattle.gfx_model.specs.World.{Surface, World, Item, draw_item, surface_of, pixels_of, FrameContent}
use Rattle.trace_laws.specs.Deeds.{Deed, clear_deed, item_deed, after_deed, deeds, begun}
use Rattle.trace_laws.specs.History.{Stroke, after_stroke, item_strokes, clear_strokes, no_pixel}

-- ---- pixels of a frame buffer

-- the pixel of a surface at a column and a row: the texel of its colour texture, and the word of its depth texture, if it has one
abbrev pub texel_pixel : Surface → ℕ → ℕ → Pixel
texel_pixel s x y = record {
  color = slice_index_or s.color.texels (y * s.color.width + x) no_color;
  depth = option_map (λ d. u32_at (slice_index_or d.texels (y * s.color.width + x) no_color) 0) s.depth;
}

-- the same of a surface that may not be there
abbrev pub pixel_on : Option Surface → ℕ → ℕ → Pixel
pixel_on None x y = no_pixel
pixel_on (Some s) x y = texel_pixel s x y

-- whether a surface is there and has a pixel at a column and a row
abbrev pub has_pixel : Option Surface → ℕ → ℕ → Bool
has_pixel None x y = false
has_pixel (Some s) x y = nat_lt x s.color.width && nat_lt (y * s.color.width + x) (length (pixels_of s))

-- the pixel of a frame buffer in a world
abbrev pub target_pixel : World → Handle → ℕ → ℕ → Pixel
target_pixel w t x y = pixel_on (surface_of w (Some t)) x y

-- ---- strokes

-- what changes a pixel of a frame buffer: a clear or a fragment of a view that draws on it, or another deed that leaves a pixel there
pub data TargetStroke : Type 0 where
  own_stroke : Stroke → TargetStroke
  left_stroke : Pixel → TargetStroke

-- the pixel after it
abbrev pub after_target_stroke : Pixel → TargetStroke → Pixel
after_target_stroke p (own_stroke s) = after_stroke p s
after_target_stroke p (left_stroke q) = q

-- whether a view's target is this frame buffer
abbrev pub is_target : Handle → Option Handle → Bool
is_target t None = false
is_target t (Some h) = h.index == t.index && h.serial == t.serial

-- whether an item draws
abbrev pub is_draw : Item → Bool
is_draw (draw_item d) = true
is_draw _ = false

-- whether a deed is a clear or a draw of a view that draws on the frame buffer
abbrev pub draws_on : Handle → Deed → Bool
draws_on t (clear_deed view) = is_target t view.target
draws_on t (item_deed view i) = is_draw i && is_target t view.target

-- what a clear or a draw does to a pixel of a surface: as it would to the back buffer, which the surface takes the place of
abbrev pub strokes_on : Option Surface → ℕ → ℕ → World → Deed → List Stroke
strokes_on None x y w d = []
strokes_on (Some s) x y w (clear_deed view) = clear_strokes (record w { back = s }) view x y
strokes_on (Some s) x y w (item_deed view i) = item_strokes (record w { back = s }) view x y i

-- whether two depth words are the same, or both are not there
abbrev pub is_same_word : Option ℕ → Option ℕ → Bool
is_same_word None None = true
is_same_word (Some a) (Some b) = a == b
is_same_word _ _ = false

-- whether two pixels are the same
abbrev pub is_same_pixel : Pixel → Pixel → Bool
is_same_pixel p q = bytes_eq p.color q.color && is_same_word p.depth q.depth

-- a pixel that another deed leaves, where it changes it
abbrev pub left_pixel : (before after : Pixel) → List TargetStroke
left_pixel before after = if is_same_pixel before after then [] else left_stroke after ∷ []

-- what a deed does to a pixel of a frame buffer
abbrev pub target_strokes : Handle → ℕ → ℕ → World → Deed → List TargetStroke
target_strokes t x y w d =
    if draws_on t d && has_pixel (surface_of w (Some t)) x y
    then map own_stroke (strokes_on (surface_of w (Some t)) x y w d)
    else left_pixel (target_pixel w t x y) (target_pixel (after_deed w d) t x y)

-- ---- histories

-- a stroke, and the number of the deed that makes it
pub record TargetMade : Type 0 where
  pub deed : ℕ
  pub stroke : TargetStroke

-- the strokes of deeds that are numbered from n on, in order
abbrev pub target_history_from : Handle → ℕ → ℕ → ℕ → World → List Deed → List TargetMade
target_history_from t x y n w [] = []
target_history_from t x y n w (d ∷ ds) = map (λ s. record { deed = n; stroke = s }) (target_strokes t x y w d) ++ target_history_from t x y (n + 1) (after_deed w d) ds

-- what a pixel of a frame buffer goes through in a frame, from its creates and updates on
abbrev pub target_history : World → FrameContent → Handle → ℕ → ℕ → List TargetMade
target_history w f t x y = target_history_from t x y 0 (begun w f) (deeds f)

-- a pixel after strokes
abbrev pub after_target_history : Pixel → List TargetMade → Pixel
after_target_history p strokes = fold (λ q m. after_target_stroke q m.stroke) p strokes
