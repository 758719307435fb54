-- The values of the four channels' ramps at a pixel, side by side.
use Rattle.std.specs.Prelude.{◌≡◌, ℕ, slice_index}
use Rattle.tri_cover.specs.Slope.{ramp_at}
use Rattle.int_raster.specs.declared.painters.Shade.{Shade}
use Rattle.int_raster.specs.declared.pieces.Tint.{Tint}

-- they are those at a column and a row
pub record IsTint (t : Tint) (s : Shade) (x y : ℕ) : Type 0 where
  pub red : slice_index t.front 0 ≡ ramp_at s.red x y
  pub green : slice_index t.front 1 ≡ ramp_at s.green x y
  pub blue : slice_index t.back 0 ≡ ramp_at s.blue x y
  pub alpha : slice_index t.back 1 ≡ ramp_at s.alpha x y

-- they are what the channels gain in a column
pub record IsTintGain (t : Tint) (s : Shade) : Type 0 where
  pub red : slice_index t.front 0 ≡ s.red.right
  pub green : slice_index t.front 1 ≡ s.green.right
  pub blue : slice_index t.back 0 ≡ s.blue.right
  pub alpha : slice_index t.back 1 ≡ s.alpha.right
