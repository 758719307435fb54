-- What pixels are read as.
use Rattle.std.specs.Prelude.{ℕ, ◌==◌, if◌then◌else◌, Bool, false, Option, Some, None}
use Rattle.gfx_model.specs.Words.{Format, rgba8, d24s8, is_format}
use Rattle.texel_rows.specs.declared.rows.ByteOrder.{ByteOrder}
use Rattle.texel_rows.specs.declared.rows.ByteOrder.TheVariants as orders
use Rattle.pixel_reading.specs.declared.formats.Pixels.{Pixels}
use Rattle.pixel_reading.specs.declared.formats.Pixels.TheVariants as pixels

-- the pixels of a number
abbrev pub pixels_of_number : ℕ → Option Pixels
pixels_of_number n = if n == 0 then Some pixels.Rgba8 else (if n == 1 then Some pixels.D24S8 else (if n == 2 then Some pixels.Bgra8 else None))

-- the order of their bytes
abbrev pub order_of : Pixels → ByteOrder
order_of pixels.Rgba8 = orders.Kept
order_of pixels.D24S8 = orders.Kept
order_of pixels.Bgra8 = orders.Exchanged

-- the format of the textures that are read as them
abbrev pub texture_format : Pixels → Format
texture_format pixels.Rgba8 = rgba8
texture_format pixels.D24S8 = d24s8
texture_format pixels.Bgra8 = rgba8

-- whether there is a format, and it is theirs
abbrev pub is_of_format : Option Format → Pixels → Bool
is_of_format None p = false
is_of_format (Some f) p = is_format f (texture_format p)
