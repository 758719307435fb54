-- The store's fields: a row of slots for textures and one for frame buffers.
use Rattle.store_model.specs.Textures.{Textures, IsTextures}
use Rattle.texture_store.specs.declared.store.TextureStore.TheInside.{Inside}

-- the two rows
abbrev pub view_of : Inside → Textures
view_of s = record { textures = s.textures; targets = s.targets }

-- what holds of each store
abbrev pub IsInside : Inside → Type 0
IsInside s = IsTextures (view_of s)
