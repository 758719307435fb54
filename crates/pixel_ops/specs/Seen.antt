-- The crate's types as the definitions see them.
use Rattle.gfx_model.specs.Pixel as model
use Rattle.pixel_ops.specs.declared.pixels.Pixel.{Pixel}
use Rattle.pixel_ops.specs.declared.pixels.Shaded.{Shaded}

-- a pixel with the same colour and depth word
abbrev pub pixel_seen : Pixel → model.Pixel
pixel_seen p = record { color = p.color; depth = p.depth }

-- a painted fragment with the same colour and depth
abbrev pub shaded_seen : Shaded → model.Shaded
shaded_seen s = record { color = s.color; depth = s.depth }
