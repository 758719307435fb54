-- The crate's types as the definitions see them.
use Rattle.store_laws.specs.ByIndex.{Stores}
use Rattle.int_raster.specs.Seen.{surface_seen}
use Rattle.render_stores.specs.declared.stores.RenderStores.{RenderStores}

-- the back buffer, the stores and the programs
abbrev pub stores_seen : RenderStores → Stores
stores_seen s = record { back = surface_seen s.back; buffers = s.buffers; textures = s.textures; programs = s.programs }
