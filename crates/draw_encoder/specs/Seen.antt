-- The crate's types as the definitions see them: bytes and values in place of ranges.
use Rattle.std.specs.Prelude.{ℕ, ◌+◌, ◌≤◌, List, take, drop, map, ⊤}
use Rattle.gfx_model.specs.World as world
use Rattle.gfx_words.specs.Seen.{value_seen}
pub use Rattle.gfx_words.specs.Seen.{room_seen}
use Rattle.fix_math.specs.Seen.{rect_seen, affine_seen}
use Rattle.draw_encoder.specs.declared.items.VertexSet.{VertexSet}
use Rattle.draw_encoder.specs.declared.items.VertexSet.TheVariants as vertices
use Rattle.draw_encoder.specs.declared.items.IndexSet.{IndexSet}
use Rattle.draw_encoder.specs.declared.items.IndexSet.TheVariants as indices
use Rattle.draw_encoder.specs.declared.items.UniformSet.{UniformSet}
use Rattle.draw_encoder.specs.declared.items.DrawItem.{DrawItem}
use Rattle.draw_encoder.specs.declared.items.TouchItem.{TouchItem}
use Rattle.draw_encoder.specs.declared.items.BlitCall.{BlitCall}
use Rattle.draw_encoder.specs.declared.items.BlitItem.{BlitItem}
use Rattle.draw_encoder.specs.declared.items.Item.{Item}
use Rattle.draw_encoder.specs.declared.items.Item.TheVariants as kinds

-- the elements of a range: as many as `count` from the place `at` on
abbrev pub part : {A : Type 0} → List A → ℕ → ℕ → List A
part xs at count = take count (drop at xs)

-- a draw's vertices, with the bytes that its range names
abbrev pub vertices_seen : List ℕ → VertexSet → world.VertexSet
vertices_seen bytes vertices.Unset = world.no_vertices
vertices_seen bytes (vertices.Buffer buffer first count) = world.stored_vertices buffer first count
vertices_seen bytes (vertices.Transient layout at count) = world.transient_vertices layout (part bytes at count)

-- a draw's indices, with the bytes that its range names
abbrev pub indices_seen : List ℕ → IndexSet → world.IndexSet
indices_seen bytes indices.Unset = world.no_indices
indices_seen bytes (indices.Buffer buffer first count) = world.stored_indices buffer first count
indices_seen bytes (indices.Transient at count) = world.transient_indices (part bytes at count)

-- a uniform value that was set
abbrev pub uniform_seen : UniformSet → world.UniformSet
uniform_seen s = record { uniform = s.uniform; value = value_seen s.value }

-- uniform values in order
abbrev pub uniforms_seen : List UniformSet → List world.UniformSet
uniforms_seen sets = map uniform_seen sets

-- a draw with the bytes and values that its ranges name
abbrev pub draw_seen : List ℕ → List UniformSet → DrawItem → world.Draw
draw_seen bytes sets d = record {
  view = d.view;
  program = d.program;
  depth = d.depth;
  state = d.state;
  front = d.front;
  back = d.back;
  scissor = rect_seen d.scissor;
  model = affine_seen d.model;
  vertices = vertices_seen bytes d.vertices;
  indices = indices_seen bytes d.indices;
  textures = d.textures;
  values = uniforms_seen (part sets d.values_at d.values);
}

-- a touch with the values that its range names
abbrev pub touch_seen : List UniformSet → TouchItem → world.Touch
touch_seen sets t = record { view = t.view; values = uniforms_seen (part sets t.values_at t.values) }

-- a blit of a view
abbrev pub copy_seen : ℕ → BlitCall → world.Blit
copy_seen view c = record {
  view = view;
  destination = c.dst;
  dx = c.dx;
  dy = c.dy;
  source = c.src;
  sx = c.sx;
  sy = c.sy;
  w = c.w;
  h = c.h;
}

-- a recorded blit
abbrev pub blit_seen : BlitItem → world.Blit
blit_seen b = copy_seen b.view b.copy

-- an item with the bytes and values that its ranges name
abbrev pub item_seen : List ℕ → List UniformSet → Item → world.Item
item_seen bytes sets (kinds.Draw d) = world.draw_item (draw_seen bytes sets d)
item_seen bytes sets (kinds.Touch t) = world.touch_item (touch_seen sets t)
item_seen bytes sets (kinds.Blit b) = world.blit_item (blit_seen b)

-- items without their draw numbers, with the bytes and values of a recording
abbrev pub items_seen : List ℕ → List UniformSet → List Item → List world.Item
items_seen bytes sets items = map (item_seen bytes sets) items

-- the number that an item drew
abbrev pub number_of : Item → ℕ
number_of (kinds.Draw d) = d.number
number_of (kinds.Touch t) = t.number
number_of (kinds.Blit b) = b.number

-- the draw numbers of items, in order
abbrev pub numbers_of : List Item → List ℕ
numbers_of items = map number_of items

-- ---- ranges

-- a range lies within a list of that many elements
abbrev pub IsWithin : ℕ → ℕ → ℕ → Type 0
IsWithin many at count = at + count ≤ many

-- transient vertices lie within so many bytes
abbrev pub HasVerticesWithin : ℕ → VertexSet → Type 0
HasVerticesWithin many (vertices.Transient layout at count) = IsWithin many at count
HasVerticesWithin many _ = ⊤

-- transient indices lie within so many bytes
abbrev pub HasIndicesWithin : ℕ → IndexSet → Type 0
HasIndicesWithin many (indices.Transient at count) = IsWithin many at count
HasIndicesWithin many _ = ⊤

-- each range of an item lies within as many bytes and values
abbrev pub HasRangesWithin : ℕ → ℕ → Item → Type 0
HasRangesWithin bytes sets (kinds.Draw d) = HasVerticesWithin bytes d.vertices × HasIndicesWithin bytes d.indices × IsWithin sets d.values_at d.values
HasRangesWithin bytes sets (kinds.Touch t) = IsWithin sets t.values_at t.values
HasRangesWithin bytes sets (kinds.Blit b) = ⊤
