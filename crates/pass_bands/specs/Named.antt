-- Textures that are named by their index.
use Rattle.std.specs.Prelude.{ℕ, Option}
use Rattle.std.specs.Option.{option_and_then}
use Rattle.gfx_model.specs.Raster.{Texels}
use Rattle.store_model.specs.Textures.{Textures, texels_at}

-- the texels of a texture, if one is named and is not taken out
abbrev pub named_texels : Textures → Option ℕ → Option Texels
named_texels t index = option_and_then (texels_at t) index
