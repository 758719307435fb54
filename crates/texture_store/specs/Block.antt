-- A rectangle of a picture whose texels are replaced.
use Rattle.std.specs.Prelude.{ℕ, ◌+◌, ◌-◌, ◌*◌, ◌/◌, ◌%◌, if◌then◌else◌, List, length, map, slice_index_or}
use Rattle.std.specs.List.{range_with_len}
use Rattle.gfx_model.specs.Vertex.{Color}
use Rattle.gfx_model.specs.Raster.{contains, no_color}
use Rattle.gfx_model.specs.World.{texel_in}

-- the texel at a place of a picture of some width, replaced where it lies in a rectangle
abbrev pub in_block : ℕ → ℕ → ℕ → ℕ → ℕ → (ℕ → ℕ → Color) → ℕ → Color → Color
in_block width x y w h texel i old = if contains (record { x = x; y = y; w = w; h = h }) (i % width) (i / width) then texel (i % width) (i / width) else old

-- the source's texel for a column and a row of the destination
abbrev pub texel_of_row : List Color → ℕ → ℕ → ℕ → ℕ → ℕ → ℕ → ℕ → Color
texel_of_row from from_width dx dy sx sy x y = slice_index_or from ((sy + (y - dy)) * from_width + (sx + (x - dx))) no_color

-- bytes as texels of four each
abbrev pub texels_of_bytes : List ℕ → List Color
texels_of_bytes bytes = map (texel_in bytes) (range_with_len 0 (length bytes / 4))

-- the texel of a part for a number: the part is w texels wide and begins at a column and a row of a picture
abbrev pub texel_of_part : List Color → ℕ → ℕ → ℕ → ℕ → ℕ → Color
texel_of_part from from_width sx sy w i = slice_index_or from ((sy + i / w) * from_width + (sx + i % w)) no_color

-- a part of a picture, of w by h texels, row by row
abbrev pub part_of : List Color → ℕ → ℕ → ℕ → ℕ → ℕ → List Color
part_of from from_width sx sy w h = map (texel_of_part from from_width sx sy w) (range_with_len 0 (h * w))
