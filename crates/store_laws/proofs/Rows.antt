-- The seven rows of the stores, each by its kind: one change of one row, and what then stands for a world.
use Rattle.std.proofs.Common.{◌≡◌, ◌≢◌, ℕ, ◌+◌, ◌<◌, false, List, Option, refl, sym, ◌∙◌}
use Rattle.std.proofs.lemmas.Bool.{eq-eqb, both_ways}
use Rattle.gfx_model.specs.Words.{Kind, layout_kind, vertex_buffer_kind, index_buffer_kind, texture_kind, frame_buffer_kind, program_kind, uniform_kind, kind_number, is_kind, first_place, greatest, ProgramKind}
use Rattle.gfx_model.specs.Vertex.{Layout}
use Rattle.gfx_model.specs.World.{World, Content}
use Rattle.gfx_model.proofs.Apart.{kind_apart}
use Rattle.store_model.specs.Buffers.{VertexSlot, UniformSlot}
use Rattle.store_model.specs.Textures.{TextureSlot, TargetSlot}
use Rattle.store_laws.specs.Standing.{serials, IsApart, Ascends, AllStand, Slots}
use Rattle.store_laws.specs.ByIndex.{Stores}
use Rattle.store_laws.specs.Says.{StandsFor, layout_in, vertices_in, indices_in, texture_in, target_in, program_in, uniform_in}

-- what a slot of a kind has
abbrev pub SlotOf : Kind → Type 0
SlotOf layout_kind = Layout
SlotOf vertex_buffer_kind = VertexSlot
SlotOf index_buffer_kind = List ℕ
SlotOf texture_kind = TextureSlot
SlotOf frame_buffer_kind = TargetSlot
SlotOf program_kind = ProgramKind
SlotOf uniform_kind = UniformSlot

-- a thing as a slot of a kind
abbrev pub slot_in : (k : Kind) → (ℕ → ℕ) → (ℕ × Content) → Option (SlotOf k)
slot_in layout_kind place = layout_in
slot_in vertex_buffer_kind place = vertices_in
slot_in index_buffer_kind place = indices_in
slot_in texture_kind place = texture_in
slot_in frame_buffer_kind place = target_in place
slot_in program_kind place = program_in
slot_in uniform_kind place = uniform_in

-- the row of a kind
abbrev pub row_of : (k : Kind) → Stores → List (Option (SlotOf k))
row_of layout_kind h = h.buffers.layouts
row_of vertex_buffer_kind h = h.buffers.vertices
row_of index_buffer_kind h = h.buffers.indices
row_of texture_kind h = h.textures.textures
row_of frame_buffer_kind h = h.textures.targets
row_of program_kind h = h.programs
row_of uniform_kind h = h.buffers.uniforms

-- the stores with another row of a kind
abbrev pub with_row : (k : Kind) → List (Option (SlotOf k)) → Stores → Stores
with_row layout_kind xs h = record h { buffers = record h.buffers { layouts = xs } }
with_row vertex_buffer_kind xs h = record h { buffers = record h.buffers { vertices = xs } }
with_row index_buffer_kind xs h = record h { buffers = record h.buffers { indices = xs } }
with_row texture_kind xs h = record h { textures = record h.textures { textures = xs } }
with_row frame_buffer_kind xs h = record h { textures = record h.textures { targets = xs } }
with_row program_kind xs h = record h { programs = xs }
with_row uniform_kind xs h = record h { buffers = record h.buffers { uniforms = xs } }

-- a row of a kind stands for things
abbrev pub RowStands : (k : Kind) → (ℕ → ℕ) → List (Option (SlotOf k)) → List (ℕ × Content) → Type 0
RowStands k place slots things = Slots (slot_in k place) (first_place k) (greatest k) place slots things

pub row_stands : (k : Kind) (place : ℕ → ℕ) (h : Stores) (w : World) → StandsFor place h w → RowStands k place (row_of k h) w.things
row_stands layout_kind place h w s = s.layouts
row_stands vertex_buffer_kind place h w s = s.vertices
row_stands index_buffer_kind place h w s = s.indices
row_stands texture_kind place h w s = s.textures
row_stands frame_buffer_kind place h w s = s.targets
row_stands program_kind place h w s = s.programs
row_stands uniform_kind place h w s = s.uniforms

-- where a new row stands for things, and each other row as it was, the stores with the new row do
pub stands_with : (k : Kind) (place : ℕ → ℕ) (h : Stores) (w : World) (slots : List (Option (SlotOf k))) → h.back ≡ w.back → RowStands k place slots w.things → ((m : Kind) → is_kind m k ≡ false → RowStands m place (row_of m h) w.things)
    → IsApart place (serials w.things) → Ascends (serials w.things) → AllStand place w.things → StandsFor place (with_row k slots h) w
stands_with layout_kind place h w slots b here r a o t = record { back = b; layouts = here; vertices = r vertex_buffer_kind refl; indices = r index_buffer_kind refl; textures = r texture_kind refl; targets = r frame_buffer_kind refl; programs = r program_kind refl; uniforms = r uniform_kind refl; apart = a; ascends = o; stand = t }
stands_with vertex_buffer_kind place h w slots b here r a o t = record { back = b; layouts = r layout_kind refl; vertices = here; indices = r index_buffer_kind refl; textures = r texture_kind refl; targets = r frame_buffer_kind refl; programs = r program_kind refl; uniforms = r uniform_kind refl; apart = a; ascends = o; stand = t }
stands_with index_buffer_kind place h w slots b here r a o t = record { back = b; layouts = r layout_kind refl; vertices = r vertex_buffer_kind refl; indices = here; textures = r texture_kind refl; targets = r frame_buffer_kind refl; programs = r program_kind refl; uniforms = r uniform_kind refl; apart = a; ascends = o; stand = t }
stands_with texture_kind place h w slots b here r a o t = record { back = b; layouts = r layout_kind refl; vertices = r vertex_buffer_kind refl; indices = r index_buffer_kind refl; textures = here; targets = r frame_buffer_kind refl; programs = r program_kind refl; uniforms = r uniform_kind refl; apart = a; ascends = o; stand = t }
stands_with frame_buffer_kind place h w slots b here r a o t = record { back = b; layouts = r layout_kind refl; vertices = r vertex_buffer_kind refl; indices = r index_buffer_kind refl; textures = r texture_kind refl; targets = here; programs = r program_kind refl; uniforms = r uniform_kind refl; apart = a; ascends = o; stand = t }
stands_with program_kind place h w slots b here r a o t = record { back = b; layouts = r layout_kind refl; vertices = r vertex_buffer_kind refl; indices = r index_buffer_kind refl; textures = r texture_kind refl; targets = r frame_buffer_kind refl; programs = here; uniforms = r uniform_kind refl; apart = a; ascends = o; stand = t }
stands_with uniform_kind place h w slots b here r a o t = record { back = b; layouts = r layout_kind refl; vertices = r vertex_buffer_kind refl; indices = r index_buffer_kind refl; textures = r texture_kind refl; targets = r frame_buffer_kind refl; programs = r program_kind refl; uniforms = here; apart = a; ascends = o; stand = t }

-- a thing at a place of one kind is at none of another
pub beside : (k m : Kind) (p index i : ℕ) → is_kind m k ≡ false → p ≡ first_place k + index → index < greatest k → i < greatest m → p ≢ first_place m + i
beside k m p index i other own lt l e = both_ways (is_kind m k) other (eq-eqb (kind_number m) (kind_number k) (kind_apart m k i index l lt (sym e ∙ own)))
