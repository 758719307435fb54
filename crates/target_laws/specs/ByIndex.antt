-- The histories of a frame buffer's pixels by index, on a renderer's stores.
use Rattle.std.specs.Prelude.{ℕ, ◌+◌, ◌&&◌, if◌then◌else◌, List, [], ◌∷◌, ◌++◌, map, Option, Some, None, option_map}
use Rattle.gfx_model.specs.Words.{Handle}
use Rattle.gfx_model.specs.Pixel.{Pixel}
use Rattle.gfx_model.specs.World.{Surface}
use Rattle.store_model.specs.Textures.{target_texels}
use Rattle.store_laws.specs.ByIndex.{Stores}
use Rattle.trace_laws.specs.Deeds.{Deed, clear_deed, item_deed}
use Rattle.trace_laws.specs.History.{Stroke}
use Rattle.trace_laws.specs.ByIndex.{stores_after, clear_strokes_in, item_strokes_in}
use Rattle.target_laws.specs.Targets.{pixel_on, has_pixel, draws_on, left_pixel, TargetStroke, own_stroke, TargetMade}

-- the surface of the frame buffer at a handle's index
abbrev pub surface_at : Stores → Handle → Option Surface
surface_at h t = option_map (λ p. record { color = p.0; depth = p.1 }) (target_texels h.textures t.index)

-- the pixel of a frame buffer in stores
abbrev pub target_pixel_in : Stores → Handle → ℕ → ℕ → Pixel
target_pixel_in h t x y = pixel_on (surface_at h t) x y

-- what a clear or a draw does to a pixel of a surface, which takes the place of the back buffer
abbrev pub strokes_on_in : Option Surface → ℕ → ℕ → Stores → Deed → List Stroke
strokes_on_in None x y h d = []
strokes_on_in (Some s) x y h (clear_deed view) = clear_strokes_in (record h { back = s }) view x y
strokes_on_in (Some s) x y h (item_deed view i) = item_strokes_in (record h { back = s }) view x y i

-- what a deed does to a pixel of a frame buffer
abbrev pub target_strokes_in : Handle → ℕ → ℕ → Stores → Deed → List TargetStroke
target_strokes_in t x y h d =
    if draws_on t d && has_pixel (surface_at h t) x y
    then map own_stroke (strokes_on_in (surface_at h t) x y h d)
    else left_pixel (target_pixel_in h t x y) (target_pixel_in (stores_after h d) t x y)

-- the strokes of deeds that are numbered from n on, in order
abbrev pub target_history_in : Handle → ℕ → ℕ → ℕ → Stores → List Deed → List TargetMade
target_history_in t x y n h [] = []
target_history_in t x y n h (d ∷ ds) = map (λ s. record { deed = n; stroke = s }) (target_strokes_in t x y h d) ++ target_history_in t x y (n + 1) (stores_after h d) ds
