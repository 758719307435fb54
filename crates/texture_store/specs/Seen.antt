-- The crate's types as the definitions see them.
use Rattle.std.specs.Prelude.{Option, option_map}
use Rattle.fix_math.specs.declared.picture.Texels as texels
use Rattle.fix_math.specs.Seen.{texels_seen}
pub use Rattle.fix_math.specs.Seen.{sides_seen}
pub use Rattle.gfx_words.specs.Seen.{own_source_seen}
use Rattle.gfx_model.specs.Raster.{Texels}
use Rattle.gfx_model.specs.Resources.{TexelSource, fill_source, bytes_source}
use Rattle.store_model.specs.Textures.{Region}
use Rattle.texture_store.specs.declared.source.BlitBox.{BlitBox}
use Rattle.texture_store.specs.declared.source.TexelSource as lent
use Rattle.texture_store.specs.declared.source.TexelSource.TheVariants as sources
use Rattle.texture_store.specs.declared.rows.Cut.{Cut}

-- a source whose bytes are lent
abbrev pub source_seen : lent.TexelSource → TexelSource
source_seen (sources.Fill color) = fill_source color
source_seen (sources.Bytes bytes) = bytes_source bytes.now

-- the region of a blit
abbrev pub region_seen : BlitBox → Region
region_seen b = record { dx = b.dx; dy = b.dy; sx = b.sx; sy = b.sy; w = b.w; h = b.h }

-- a region that is cut
abbrev pub cut_seen : Cut → Region
cut_seen c = record { dx = c.dx; dy = c.dy; sx = c.sx; sy = c.sy; w = c.w; h = c.h }

-- the texels of a colour texture and of a depth texture, if there is one
abbrev pub target_seen : texels.Texels × Option texels.Texels → Texels × Option Texels
target_seen p = (texels_seen p.0, option_map texels_seen p.1)
