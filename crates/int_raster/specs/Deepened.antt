-- The values of a depth's ramp at four pixels side by side.
use Rattle.std.specs.Prelude.{◌≡◌, ◌<◌, ◌+◌, ℕ, slice_index}
use Rattle.tri_cover.specs.Slope.{ramp_at}
use Rattle.tri_cover.specs.declared.ramps.Ramp.{Ramp}
use Rattle.int_raster.specs.declared.gradients.Deep.{Deep}

-- they are those from a column on
pub record IsDeep (d : Deep) (r : Ramp) (x y : ℕ) : Type 0 where
  pub front : (j : ℕ) → j < 2 → slice_index d.front j ≡ ramp_at r (x + j) y
  pub back : (j : ℕ) → j < 2 → slice_index d.back j ≡ ramp_at r (x + 2 + j) y
