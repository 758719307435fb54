-- The crate's types as the definitions see them.
use Rattle.std.specs.Prelude.{ℕ}
use Rattle.gfx_model.specs.Vertex as vertex
use Rattle.gfx_model.specs.Raster as raster
use Rattle.fix_math.specs.declared.geometry.Point.{Point}
use Rattle.fix_math.specs.declared.geometry.Rect.{Rect}
use Rattle.fix_math.specs.declared.geometry.Affine.{Affine}
use Rattle.fix_math.specs.declared.picture.Texels.{Texels}

-- a point with the same coordinates
abbrev pub point_seen : Point → vertex.Point
point_seen p = record { x = p.x; y = p.y; z = p.z }

-- a rectangle with the same corner and sides
abbrev pub rect_seen : Rect → raster.Rect
rect_seen r = record { x = r.x; y = r.y; w = r.w; h = r.h }

-- a transform with the same six numbers
abbrev pub affine_seen : Affine → raster.Affine
affine_seen a = a.m

-- texels with the same sides and colours
abbrev pub texels_seen : Texels → raster.Texels
texels_seen t = record { width = t.width; height = t.height; texels = t.texels }

-- the sides of texels
abbrev pub sides_seen : Texels → ℕ × ℕ
sides_seen t = (t.width, t.height)
