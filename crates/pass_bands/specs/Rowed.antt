-- Rows of a surface.
use Rattle.std.specs.Prelude.{ℕ, ◌≡◌, ◌≤◌, ◌+◌, ◌*◌, List, Option, option_map, take, drop}
use Rattle.gfx_model.specs.Vertex.{Color}
use Rattle.int_raster.specs.declared.rows.Rows.{Rows}
use Rattle.int_raster.specs.declared.surfaces.Surface.{Surface}
use Rattle.pass_bands.specs.declared.pieces.Piece.{Piece}

-- the texels of so many rows from a row on, of a width
abbrev pub rows_of : (width top count : ℕ) → List Color → List Color
rows_of width top count texels = take (width * count) (drop (width * top) texels)

-- the same of rows
abbrev pub rowed : Rows → List Color → List Color
rowed rows texels = rows_of rows.width rows.top rows.count texels

-- rows lie in a surface
pub record AreIn (rows : Rows) (s : Surface) : Type 0 where
  pub width : rows.width ≡ s.color.width
  pub within : rows.top + rows.count ≤ s.color.height

-- colours and depths, if there are any, are those of rows of a surface
pub record AreRowed (s : Surface) (rows : Rows) (colors : List Color) (depths : Option (List Color)) : Type 0 where
  pub colors_are : colors ≡ rowed rows s.color.texels
  pub depths_are : depths ≡ option_map (λ t. rowed rows t.texels) s.depth

-- the depths of a piece, if it has any
abbrev pub depths_of : Piece → Option (List Color)
depths_of p = option_map (λ d. d.items) p.depths

-- a piece has the texels of its rows of a surface
abbrev pub IsCut : Piece → Surface → Type 0
IsCut p s = AreRowed s p.rows p.colors.items (depths_of p)
