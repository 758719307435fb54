-- Layouts, vertex buffers, index buffers and uniforms by index.
use Rattle.std.specs.Prelude.{◌≡◌, ℕ, ◌≤◌, true, false, Bool, ◌&&◌, nat_le, if◌then◌else◌, List, length, fold, Option, Some, None, option_map, is_some, bytes_eq}
use Rattle.gfx_model.specs.Words.{Kind, layout_kind, vertex_buffer_kind, index_buffer_kind, uniform_kind, greatest, UniformKind, UniformValue, value_kind, is_uniform_kind}
use Rattle.gfx_model.specs.Vertex.{Layout}
use Rattle.gfx_model.specs.Resources.{zero_value}
use Rattle.gfx_model.specs.World.{with_bytes_at}
use Rattle.store_model.specs.Slots.{at, no_slots, emptied_at, changed_at}

-- a vertex buffer: its bytes, and a copy of the layout that it was made for
pub record VertexSlot : Type 0 where
  pub layout : Layout
  pub bytes : List ℕ

-- a uniform: its name and value, and the serial that tells which of a name is the newest
pub record UniformSlot : Type 0 where
  pub serial : ℕ
  pub name : List ℕ
  pub value : UniformValue

-- a row of slots for each of the four kinds
pub record Buffers : Type 0 where
  pub layouts : List (Option Layout)
  pub vertices : List (Option VertexSlot)
  pub indices : List (Option (List ℕ))
  pub uniforms : List (Option UniformSlot)

-- no things: a slot for each index that a kind can have
abbrev pub no_buffers : Buffers
no_buffers = record {
  layouts = no_slots (greatest layout_kind);
  vertices = no_slots (greatest vertex_buffer_kind);
  indices = no_slots (greatest index_buffer_kind);
  uniforms = no_slots (greatest uniform_kind);
}

-- what holds of each store: a slot for each index that a kind can have
pub record IsBuffers (h : Buffers) : Type 0 where
  pub layouts : length h.layouts ≡ greatest layout_kind
  pub vertices : length h.vertices ≡ greatest vertex_buffer_kind
  pub indices : length h.indices ≡ greatest index_buffer_kind
  pub uniforms : length h.uniforms ≡ greatest uniform_kind

-- whether a thing is there; programs, textures and frame buffers never are
abbrev pub has_thing : Kind → ℕ → Buffers → Bool
has_thing layout_kind i h = is_some (at h.layouts i)
has_thing vertex_buffer_kind i h = is_some (at h.vertices i)
has_thing index_buffer_kind i h = is_some (at h.indices i)
has_thing uniform_kind i h = is_some (at h.uniforms i)
has_thing _ i h = false

-- a new uniform, whose value is zeros of its kind
abbrev pub new_uniform : ℕ → UniformKind → List ℕ → UniformSlot
new_uniform serial kind name = record { serial = serial; name = name; value = zero_value kind }

-- a new vertex buffer
abbrev pub new_vertices : Layout → List ℕ → VertexSlot
new_vertices layout bytes = record { layout = layout; bytes = bytes }

-- the bytes of a buffer; none for kinds that are no buffers
abbrev pub bytes_at : Buffers → Kind → ℕ → Option (List ℕ)
bytes_at h vertex_buffer_kind i = option_map (λ s. s.bytes) (at h.vertices i)
bytes_at h index_buffer_kind i = at h.indices i
bytes_at h _ i = None

-- the layout itself, or the copy that a vertex buffer keeps; none for other kinds
abbrev pub layout_at : Buffers → Kind → ℕ → Option Layout
layout_at h layout_kind i = at h.layouts i
layout_at h vertex_buffer_kind i = option_map (λ s. s.layout) (at h.vertices i)
layout_at h _ i = None

-- a vertex buffer with some of its bytes replaced from a place on
abbrev pub with_new_bytes : ℕ → List ℕ → VertexSlot → VertexSlot
with_new_bytes offset new s = record s { bytes = with_bytes_at offset new s.bytes }

-- the buffers with some bytes of one replaced from a place on
abbrev pub updated : Kind → ℕ → ℕ → List ℕ → Buffers → Buffers
updated vertex_buffer_kind i offset new h = record h { vertices = changed_at (with_new_bytes offset new) i h.vertices }
updated index_buffer_kind i offset new h = record h { indices = changed_at (with_bytes_at offset new) i h.indices }
updated _ i offset new h = h

-- the buffers without a thing
abbrev pub destroyed : Kind → ℕ → Buffers → Buffers
destroyed layout_kind i h = record h { layouts = emptied_at i h.layouts }
destroyed vertex_buffer_kind i h = record h { vertices = emptied_at i h.vertices }
destroyed index_buffer_kind i h = record h { indices = emptied_at i h.indices }
destroyed uniform_kind i h = record h { uniforms = emptied_at i h.uniforms }
destroyed _ i h = h

-- a uniform with another value
abbrev pub with_slot_value : UniformValue → UniformSlot → UniformSlot
with_slot_value v s = record s { value = v }

-- whether a uniform has that name and that kind
abbrev pub is_named : List ℕ → UniformKind → UniformSlot → Bool
is_named name kind s = bytes_eq s.name name && is_uniform_kind kind (value_kind s.value)

-- of two uniforms the one with the greater serial
abbrev pub newer : Option UniformSlot → UniformSlot → Option UniformSlot
newer None s = Some s
newer (Some b) s = if nat_le b.serial s.serial then Some s else Some b

-- the newer of the best so far and a slot's uniform, if that has the name and the kind
abbrev pub better : List ℕ → UniformKind → Option UniformSlot → Option UniformSlot → Option UniformSlot
better name kind best None = best
better name kind best (Some s) = if is_named name kind s then newer best s else best

-- the uniform of that name and kind with the greatest serial
abbrev pub newest_slot : List ℕ → UniformKind → List (Option UniformSlot) → Option UniformSlot
newest_slot name kind slots = fold (better name kind) None slots

-- the uniform of that name and kind with the greatest serial; where two have one serial, the one with the greater index
pub record IsNewest (name : List ℕ) (kind : UniformKind) (slots : List (Option UniformSlot)) (i : ℕ) : Type 0 where
  pub uniform : UniformSlot
  pub there : at slots i ≡ Some uniform
  pub named : is_named name kind uniform ≡ true
  pub most : (j : ℕ) (s : UniformSlot) → at slots j ≡ Some s → is_named name kind s ≡ true → s.serial ≤ uniform.serial
  pub last : (j : ℕ) (s : UniformSlot) → at slots j ≡ Some s → is_named name kind s ≡ true → s.serial ≡ uniform.serial → j ≤ i

-- no uniform has that name and kind
abbrev pub HasNoneNamed : List ℕ → UniformKind → List (Option UniformSlot) → Type 0
HasNoneNamed name kind slots = (j : ℕ) (s : UniformSlot) → at slots j ≡ Some s → is_named name kind s ≡ false
