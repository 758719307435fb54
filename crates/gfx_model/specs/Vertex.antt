-- Vertex layouts, what a vertex's bytes stand for, and which vertices a draw's triangles have.
use Rattle.std.specs.Prelude.{ℕ, ◌+◌, ◌*◌, ◌/◌, min, ℤ, pos, ◌*ℤ◌, Bool, true, false, not, ◌&&◌, ◌==◌, nat_le, nat_lt, if◌then◌else◌, List, [], ◌∷◌, map, length, Option, Some, None, slice_index, sum_by}
use Rattle.std.specs.List.{range_with_len, find}
use Rattle.std.specs.Option.{option_map}
use Rattle.gfx_model.specs.Number.{at_least_zero, int_at, u16_at, i16_at, i32_at}

-- a point or a position, in units of 1/65536
pub record Point : Type 0 where
  pub x : ℤ
  pub y : ℤ
  pub z : ℤ

-- ---- layouts

-- what an attribute of a vertex is for
pub data Attribute : Type 0 where
  position_attribute : Attribute
  normal_attribute : Attribute
  tangent_attribute : Attribute
  color0_attribute : Attribute
  color1_attribute : Attribute
  texcoord0_attribute : Attribute
  texcoord1_attribute : Attribute

-- the number of an attribute in commands
abbrev pub attribute_number : Attribute → ℕ
attribute_number position_attribute = 0
attribute_number normal_attribute = 1
attribute_number tangent_attribute = 2
attribute_number color0_attribute = 3
attribute_number color1_attribute = 4
attribute_number texcoord0_attribute = 5
attribute_number texcoord1_attribute = 6

-- the type of an attribute's components
pub data ComponentType : Type 0 where
  u8_type : ComponentType
  i16_type : ComponentType
  fixed_type : ComponentType

-- the number of a component's type in commands
abbrev pub component_number : ComponentType → ℕ
component_number u8_type = 0
component_number i16_type = 1
component_number fixed_type = 2

-- the bytes of one component
abbrev pub component_size : ComponentType → ℕ
component_size u8_type = 1
component_size i16_type = 2
component_size fixed_type = 4

-- what a layout is made of, in order: an attribute of some components, or bytes that are passed over
pub data LayoutPart : Type 0 where
  attribute_part : Attribute → ComponentType → (count : ℕ) → LayoutPart
  skip_part : (bytes : ℕ) → LayoutPart

-- the bytes of a part of a layout
abbrev pub part_size : LayoutPart → ℕ
part_size (attribute_part a t count) = component_size t * count
part_size (skip_part bytes) = bytes

-- an attribute of a finished layout, with the place of its first byte
pub record PlacedAttribute : Type 0 where
  pub attribute : Attribute
  pub component : ComponentType
  pub count : ℕ
  pub offset : ℕ

-- the attributes in the order in which they were added, and the bytes from one vertex to the next
pub record Layout : Type 0 where
  pub attributes : List PlacedAttribute
  pub stride : ℕ

-- the attributes of the parts, where the first part begins at a place
abbrev pub placed_from : ℕ → List LayoutPart → List PlacedAttribute
placed_from at [] = []
placed_from at (attribute_part a t count ∷ parts) = record { attribute = a; component = t; count = count; offset = at } ∷ placed_from (at + component_size t * count) parts
placed_from at (skip_part bytes ∷ parts) = placed_from (at + bytes) parts

-- whether an attribute stands nowhere in a list
abbrev pub is_absent : Attribute → List PlacedAttribute → Bool
is_absent a [] = true
is_absent a (b ∷ rest) = not (attribute_number a == attribute_number b.attribute) && is_absent a rest

-- an attribute has one to four components and stands once
abbrev pub has_good_attributes : List PlacedAttribute → Bool
has_good_attributes [] = true
has_good_attributes (a ∷ rest) = nat_le 1 a.count && nat_le a.count 4 && is_absent a.attribute rest && has_good_attributes rest

-- the layout of the parts; none where the stride is 0 or over 255, or an attribute has a wrong count or stands twice
abbrev pub layout_of_parts : List LayoutPart → Option Layout
layout_of_parts parts =
    let stride = sum_by part_size parts in
    let placed = placed_from 0 parts in
    if nat_le 1 stride && nat_le stride 255 && has_good_attributes placed
    then Some (record { attributes = placed; stride = stride })
    else None

-- the place of an attribute in a layout, if it has it
abbrev pub find_attribute : Attribute → List PlacedAttribute → Option PlacedAttribute
find_attribute a placed = find (λ b. attribute_number a == attribute_number b.attribute) placed

-- ---- from bytes to a vertex

-- a component as a number of 1/65536: a byte is a share of 255, an i16 counts 1/32768, a fixed number is itself
abbrev pub fixed_at : ComponentType → List ℕ → ℕ → ℤ
fixed_at u8_type bytes at = pos (slice_index bytes at * 65536 / 255)
fixed_at i16_type bytes at = pos 2 *ℤ i16_at bytes at
fixed_at fixed_type bytes at = i32_at bytes at

-- the components of an attribute of the vertex that begins at a place
abbrev pub components_at : PlacedAttribute → List ℕ → ℕ → List ℤ
components_at a bytes at = map (λ k. fixed_at a.component bytes (at + a.offset + component_size a.component * k)) (range_with_len 0 a.count)

-- the same by attribute; none where the layout does not have it
abbrev pub components_of : Layout → Attribute → List ℕ → ℕ → Option (List ℤ)
components_of layout a bytes at = option_map (λ p. components_at p bytes at) (find_attribute a layout.attributes)

-- a share of 65536 as a byte, rounded to the nearest
abbrev pub byte_of_fixed : ℤ → ℕ
byte_of_fixed v = (min (at_least_zero v) 65536 * 255 + 32768) / 65536

-- the k-th component as a byte, or else the given byte
abbrev pub byte_or : ℕ → List ℤ → ℕ → ℕ
byte_or missing zs k = if nat_lt k (length zs) then byte_of_fixed (int_at zs k) else missing

-- a colour is the four bytes red, green, blue and alpha
abbrev pub Color : Type 0
Color = List ℕ

-- a colour of its components as bytes; missing ones are 0, and a missing alpha is 255
abbrev pub color_of_fixed : List ℤ → Color
color_of_fixed zs = byte_or 0 zs 0 ∷ byte_or 0 zs 1 ∷ byte_or 0 zs 2 ∷ byte_or 255 zs 3 ∷ []

-- what a vertex's bytes stand for: position, colour and texture position
pub record Vertex : Type 0 where
  pub position : Point
  pub color : Color
  pub texcoord : List ℤ

-- missing components are 0, a fourth is not read
abbrev pub position_of : Option (List ℤ) → Point
position_of None = record { x = pos 0; y = pos 0; z = pos 0 }
position_of (Some zs) = record { x = int_at zs 0; y = int_at zs 1; z = int_at zs 2 }

-- without the attribute a vertex is white
abbrev pub color_of : Option (List ℤ) → Color
color_of None = 255 ∷ 255 ∷ 255 ∷ 255 ∷ []
color_of (Some zs) = color_of_fixed zs

-- a texture position from its components, and zeros without them
abbrev pub texcoord_of : Option (List ℤ) → List ℤ
texcoord_of None = pos 0 ∷ pos 0 ∷ []
texcoord_of (Some zs) = int_at zs 0 ∷ int_at zs 1 ∷ []

-- the i-th vertex of the bytes; none where its last byte lies past the end
abbrev pub fetch : Layout → List ℕ → ℕ → Option Vertex
fetch layout bytes i =
    let at = i * layout.stride in
    if nat_le (at + layout.stride) (length bytes)
    then Some (record {
      position = position_of (components_of layout position_attribute bytes at);
      color = color_of (components_of layout color0_attribute bytes at);
      texcoord = texcoord_of (components_of layout texcoord0_attribute bytes at);
    })
    else None

-- ---- the triangles of a draw

-- the vertices from first on, as many as count says
pub record VertexRange : Type 0 where
  pub layout : Layout
  pub bytes : List ℕ
  pub first : ℕ
  pub count : ℕ

-- the indices from first on, two bytes each, as many as count says
pub record IndexRange : Type 0 where
  pub bytes : List ℕ
  pub first : ℕ
  pub count : ℕ

-- the k-th index of the bytes; none past the end
abbrev pub index_at : List ℕ → ℕ → Option ℕ
index_at bytes k = if nat_le (2 * k + 2) (length bytes) then Some (u16_at bytes (2 * k)) else None

-- the vertex that an index stands for; none where the index is missing or not below the count
abbrev pub indexed_vertex : VertexRange → Option ℕ → Option Vertex
indexed_vertex v None = None
indexed_vertex v (Some i) = if nat_lt i v.count then fetch v.layout v.bytes (v.first + i) else None

-- the vertices of a draw in order, with none in place of one that does not exist
abbrev pub vertices_of : VertexRange → Option IndexRange → List (Option Vertex)
vertices_of v None = map (λ i. fetch v.layout v.bytes i) (range_with_len v.first v.count)
vertices_of v (Some r) = map (λ k. indexed_vertex v (index_at r.bytes k)) (range_with_len r.first r.count)

-- three of anything, as corners in order
pub record Triangle (V : Type 0) : Type 0 where
  pub a : V
  pub b : V
  pub c : V

-- three at a time, without an unfinished rest
abbrev pub listed_triangles : {V : Type 0} → List V → List (Triangle V)
listed_triangles [] = []
listed_triangles (a ∷ []) = []
listed_triangles (a ∷ b ∷ []) = []
listed_triangles (a ∷ b ∷ c ∷ rest) = record { a = a; b = b; c = c } ∷ listed_triangles rest

-- each vertex with the next two; in every second triangle the first two change places
abbrev pub strip_triangles : {V : Type 0} → Bool → List V → List (Triangle V)
strip_triangles odd [] = []
strip_triangles odd (a ∷ []) = []
strip_triangles odd (a ∷ b ∷ []) = []
strip_triangles odd (a ∷ b ∷ c ∷ rest) =
    (if odd then record { a = b; b = a; c = c } else record { a = a; b = b; c = c }) ∷ strip_triangles (not odd) (b ∷ c ∷ rest)

-- by the primitive of the state word: 0 a list, 1 a strip
abbrev pub triangles_of : {V : Type 0} → ℕ → List V → List (Triangle V)
triangles_of primitive vertices = if primitive == 0 then listed_triangles vertices else strip_triangles false vertices
