-- The store's fields: a row of slots for each kind.
use Rattle.store_model.specs.Buffers.{Buffers, IsBuffers}
use Rattle.buffer_store.specs.declared.store.BufferStore.TheInside.{Inside}

-- the four rows
abbrev pub view_of : Inside → Buffers
view_of s = record { layouts = s.layouts; vertices = s.vertices; indices = s.indices; uniforms = s.uniforms }

-- what holds of each store
abbrev pub IsInside : Inside → Type 0
IsInside s = IsBuffers (view_of s)
