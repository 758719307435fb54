-- Triangles that are ready to be drawn.
use Rattle.std.specs.Prelude.{ℕ, Bool, if◌then◌else◌, Option, Some, None}
use Rattle.gfx_model.specs.Vertex.{Triangle}
use Rattle.gfx_model.specs.Raster.{ScreenVertex, clockwise, is_front as faces_front, is_kept}
use Rattle.tri_cover.specs.Seen.{triangle_seen}
use Rattle.tri_cover.specs.declared.triangles.Setup.{Setup}

-- a triangle the clockwise way round, and whether it faced the front
pub record Shown : Type 0 where
  pub triangle : Triangle ScreenVertex
  pub is_front : Bool

-- a prepared triangle and the side that it shows
abbrev pub setup_seen : Setup → Shown
setup_seen s = record { triangle = triangle_seen s.a s.b s.c; is_front = s.is_front }

-- none where the triangle has no area or is culled
abbrev pub shown_unless_culled : ℕ → Triangle ScreenVertex → Option Shown
shown_unless_culled cull t = if is_kept cull t then Some (record { triangle = clockwise t; is_front = faces_front t }) else None
