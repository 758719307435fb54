-- Where a vertex comes to on the target.
use Rattle.std.specs.Prelude.{ℤ, if◌then◌else◌, Option, Some, None}
use Rattle.gfx_model.specs.Vertex.{Point, Vertex}
use Rattle.gfx_model.specs.Raster.{Rect, ScreenVertex, is_in_guard_range, on_screen}

-- a point by its coordinates
abbrev pub point_of : (x y z : ℤ) → Point
point_of x y z = record { x = x; y = y; z = z }

-- a vertex that was brought to a point, on a rectangle of the target; none outside the guard range
abbrev pub placed_at : Vertex → Point → Rect → Option ScreenVertex
placed_at v p r = if is_in_guard_range p then Some (on_screen v p r) else None
