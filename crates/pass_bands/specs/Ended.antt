-- Pieces that are put back.
use Rattle.std.specs.Prelude.{◌≡◌, List, None, Some}
use Rattle.gfx_model.specs.Vertex.{Color}
use Rattle.int_raster.specs.Bands.{deep, deep_drawn, flat_drawn}
use Rattle.int_raster.specs.Drawing.{PreparedDraw}
use Rattle.int_raster.specs.declared.rows.Rows.{Rows}
use Rattle.pass_bands.specs.Rowed.{depths_of}
use Rattle.pass_bands.specs.declared.pieces.Piece.{Piece}

-- the rows of a piece are these
pub record IsOf (p : Piece) (rows : Rows) : Type 0 where
  pub width : p.rows.width ≡ rows.width
  pub top : p.rows.top ≡ rows.top
  pub count : p.rows.count ≡ rows.count

-- a piece of these rows, without depths, is what draws make of the colours
abbrev pub IsFlatEnd : Piece → Rows → List Color → List PreparedDraw → Type 0
IsFlatEnd p rows colors ds = IsOf p rows → depths_of p ≡ None → p.colors.items ≡ flat_drawn rows.width rows.top colors ds

-- a piece of these rows, with depths, is what draws make of the colours and depths
abbrev pub IsDeepEnd : Piece → Rows → List Color → List Color → List PreparedDraw → Type 0
IsDeepEnd p rows colors depths ds = (zs : List Color) → IsOf p rows → depths_of p ≡ Some zs → deep p.colors.items zs ≡ deep_drawn rows.width rows.top (deep colors depths) ds
