-- The surface of a frame buffer in textures.
use Rattle.std.specs.Prelude.{ℕ, Option, option_map}
use Rattle.gfx_model.specs.World.{Surface}
use Rattle.store_model.specs.Textures.{Textures, target_texels}

-- the surface of the frame buffer at an index
abbrev pub surface_in : Textures → ℕ → Option Surface
surface_in h i = option_map (λ p. record { color = p.0; depth = p.1 }) (target_texels h i)
