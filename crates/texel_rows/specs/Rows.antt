-- Texels as rows of bytes in a buffer.
use Rattle.std.specs.Prelude.{ℕ, zero, suc, ◌+◌, ◌-◌, ◌*◌, List, [], ◌∷◌, ◌++◌, length, take, drop, map, flat_map, slice_index_or}
use Rattle.gfx_model.specs.Vertex.{Color}
use Rattle.gfx_model.specs.Raster.{Texels}
use Rattle.texel_rows.specs.declared.rows.ByteOrder.{ByteOrder}
use Rattle.texel_rows.specs.declared.rows.ByteOrder.TheVariants.{Kept, Exchanged}

-- a texel with its first and third bytes exchanged
abbrev pub exchanged : Color → List ℕ
exchanged c = slice_index_or c 2 0 ∷ slice_index_or c 1 0 ∷ slice_index_or c 0 0 ∷ slice_index_or c 3 0 ∷ []

-- the bytes of a row of texels
abbrev pub row_bytes : ByteOrder → List Color → List ℕ
row_bytes Kept row = flat_map (λ c. c) row
row_bytes Exchanged row = flat_map exchanged row

-- the first rows of a width
abbrev pub rows_of : (width rows : ℕ) → List Color → List (List Color)
rows_of width zero colors = []
rows_of width (suc rows) colors = take width colors ∷ rows_of width rows (drop width colors)

-- the rows of texels, from the top
abbrev pub rows_in : ByteOrder → Texels → List (List ℕ)
rows_in order t = map (row_bytes order) (rows_of t.width t.height t.texels)

-- a buffer with rows in it, of which each begins `stride` bytes behind the one before; all else is as it was
abbrev pub with_rows : (stride : ℕ) → List (List ℕ) → List ℕ → List ℕ
with_rows stride [] buffer = buffer
with_rows stride (row ∷ rows) buffer = row ++ (drop (length row) (take stride buffer) ++ with_rows stride rows (drop stride buffer))

-- how many bytes a buffer has at least for texels with a stride: the last row ends with its last texel
abbrev pub least_room : (stride : ℕ) → Texels → ℕ
least_room stride t = (t.height - 1) * stride + 4 * t.width
