-- The bits of two texture positions that are stepped: 16 within one unit, and 48 behind the point.
use Rattle.std.specs.Prelude.{◌≡◌, ◌/◌, ◌%◌, ◌^◌, ℕ, List, slice_index}
use Rattle.tri_cover.specs.Widened.{wide_at}
use Rattle.int_raster.specs.declared.painters.Place.{Place}

-- those of a value
abbrev pub middle : ℕ → ℕ
middle n = n / 2 ^ 56 % 2 ^ 64

-- the column's and the row's at a pixel
pub record AreBits (two : List ℕ) (p : Place) (x y : ℕ) : Type 0 where
  pub u : slice_index two 0 ≡ middle (wide_at p.u x y)
  pub v : slice_index two 1 ≡ middle (wide_at p.v x y)

-- the positions gain no lower bits in a column
pub record IsExact (p : Place) : Type 0 where
  pub u : p.u.right % 2 ^ 56 ≡ 0
  pub v : p.v.right % 2 ^ 56 ≡ 0

-- what they gain in a column
pub record AreBitsGained (two : List ℕ) (p : Place) : Type 0 where
  pub u : slice_index two 0 ≡ middle p.u.right
  pub v : slice_index two 1 ≡ middle p.v.right
