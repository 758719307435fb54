-- Textures that are sampled.
use Rattle.std.specs.Prelude.{◌≡◌, ◌<◌, ◌+◌, ◌*◌, ℕ, slice_index}
use Rattle.gfx_model.specs.Raster.{Texels}
use Rattle.int_raster.specs.declared.samplers.Sampler.{Sampler}
use Rattle.int_raster.specs.declared.samplers.Sides.{Sides}

-- the texels that a sampler reads
abbrev pub sampler_seen : Sampler → Texels
sampler_seen s = record { width = s.width; height = s.height; texels = s.texels.now }

-- the sides of a sampler's texture, in lanes
pub record AreSides (s : Sides) (t : Sampler) : Type 0 where
  pub widths : (j : ℕ) → j < 4 → slice_index s.both (2 * j) ≡ t.width
  pub heights : (j : ℕ) → j < 4 → slice_index s.both (2 * j + 1) ≡ t.height
  pub width : (j : ℕ) → j < 4 → slice_index s.width j ≡ t.width
