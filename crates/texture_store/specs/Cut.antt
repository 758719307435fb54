-- The part of a region that lies in its source and in its destination.
use Rattle.std.specs.Prelude.{ℕ, ◌-◌, ◌==◌, ◌||◌, min, Bool, true, List, Option, Some, None}
use Rattle.gfx_model.specs.Number.{map_from}
use Rattle.gfx_model.specs.Vertex.{Color}
use Rattle.gfx_model.specs.Raster.{Texels}
use Rattle.store_model.specs.Textures.{Region}
use Rattle.texture_store.specs.Block.{in_block, texel_of_row}

-- how many columns of a region lie in the source and in the destination
abbrev pub cut_width : Region → Texels → Texels → ℕ
cut_width r source d = min r.w (min (d.width - r.dx) (source.width - r.sx))

-- how many rows of a region lie in the source and in the destination
abbrev pub cut_height : Region → Texels → Texels → ℕ
cut_height r source d = min r.h (min (d.height - r.dy) (source.height - r.sy))

-- the region cut to its source and its destination
abbrev pub cut_of : Region → Texels → Texels → Region
cut_of r source d = record r { w = cut_width r source d; h = cut_height r source d }

-- whether nothing is left of the region
abbrev pub is_cut_empty : Region → Texels → Texels → Bool
is_cut_empty r source d = (cut_width r source d == 0) || (cut_height r source d == 0)

-- whether a copy of a texture over itself writes nothing: it has no texels here, or nothing is left of the region
abbrev pub writes_nothing : Region → Option Texels → Bool
writes_nothing r None = true
writes_nothing r (Some t) = is_cut_empty r t t

-- the destination with a region that lies within it and within the source's texels of such a width
abbrev pub cut_copied : Region → List Color → ℕ → Texels → Texels
cut_copied r from width d = record d { texels = map_from (in_block d.width r.dx r.dy r.w r.h (texel_of_row from width r.dx r.dy r.sx r.sy)) 0 d.texels }
