-- What a prepared draw does to a surface.
use Rattle.std.specs.Prelude.{ℕ, ◌||◌, ◌==◌, if◌then◌else◌, List, fold}
use Rattle.gfx_model.specs.Raster.{Rect, contains, covers, fragment_at}
use Rattle.gfx_model.specs.Pixel.{Pixel, pixel_step}
use Rattle.gfx_model.specs.World.{Surface, Facing, Paint, painted, on_each_pixel}
use Rattle.tri_cover.specs.Shown.{Shown}

-- a draw with its triangles on the target: where it may draw, its state word, its paint, and its triangles in order
pub record PreparedDraw : Type 0 where
  pub cut : Rect
  pub state : ℕ
  pub paint : Paint
  pub facings : List Facing

-- a triangle with the stencil word of the side that it shows
abbrev pub facing_shown : ℕ → ℕ → Shown → Facing
facing_shown front back s = record { triangle = s.triangle; stencil = if s.is_front || (back == 0) then front else back }

-- a pixel that a triangle covers, after it
abbrev pub covered_step : ℕ → Paint → Facing → ℕ → ℕ → Pixel → Pixel
covered_step state paint f x y p =
    let fragment = fragment_at f.triangle x y in
    pixel_step p (record { color = painted paint fragment; depth = fragment.depth }) state f.stencil

-- a pixel after one triangle
abbrev pub facing_step : ℕ → Paint → ℕ → ℕ → Pixel → Facing → Pixel
facing_step state paint x y p f = if covers f.triangle x y then covered_step state paint f x y p else p

-- each pixel of the cut goes through the triangles in order
abbrev pub prepared_step : PreparedDraw → ℕ → ℕ → Pixel → Pixel
prepared_step d x y p = if contains d.cut x y then fold (facing_step d.state d.paint x y) p d.facings else p

-- the surface after a draw
abbrev pub drawn_prepared : Surface → PreparedDraw → Surface
drawn_prepared s d = on_each_pixel (prepared_step d) s
