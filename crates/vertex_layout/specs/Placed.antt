-- Placed attributes as the definitions see them, and when one can be added.
use Rattle.std.specs.Prelude.{◌≡◌, ℕ, Bool, ◌&&◌, ◌+◌, ◌*◌, nat_le, List, refl}
use Rattle.gfx_model.specs.Vertex.{PlacedAttribute, component_size, is_absent}
use Rattle.vertex_layout.specs.declared.attributes.Attr.{Attr}
use Rattle.vertex_layout.specs.declared.attributes.Attr.TheVariants as attrs
use Rattle.vertex_layout.specs.declared.attributes.AttrType.{AttrType}
use Rattle.vertex_layout.specs.declared.attributes.AttrType.TheVariants as types
use Rattle.vertex_layout.specs.declared.attributes.PlacedAttr.{PlacedAttr}
use Rattle.vertex_layout.specs.Kinds.{attribute_seen, component_seen, attribute_back, component_back}

-- an attribute at its offset
abbrev pub placed_seen : PlacedAttr → PlacedAttribute
placed_seen p = record { attribute = attribute_seen p.attr; component = component_seen p.kind; count = p.count; offset = p.offset }

-- the code's attribute at its offset
abbrev pub placed_back : PlacedAttribute → PlacedAttr
placed_back p = record { attr = attribute_back p.attribute; kind = component_back p.component; count = p.count; offset = p.offset }

-- whether an attribute has one to four components and stands nowhere in a list
abbrev pub is_addable : PlacedAttribute → List PlacedAttribute → Bool
is_addable a placed = nat_le 1 a.count && nat_le a.count 4 && is_absent a.attribute placed

-- the place behind an attribute's last byte
abbrev pub end_of : PlacedAttr → ℕ
end_of p = p.offset + component_size (component_seen p.kind) * p.count

-- whether an attribute ends within a vertex of that many bytes
abbrev pub ends_within : ℕ → PlacedAttribute → Bool
ends_within stride a = nat_le (a.offset + component_size a.component * a.count) stride

attribute_same : (a : Attr) → attribute_back (attribute_seen a) ≡ a
attribute_same attrs.Position = refl
attribute_same attrs.Normal = refl
attribute_same attrs.Tangent = refl
attribute_same attrs.Color0 = refl
attribute_same attrs.Color1 = refl
attribute_same attrs.Texcoord0 = refl
attribute_same attrs.Texcoord1 = refl

component_same : (t : AttrType) → component_back (component_seen t) ≡ t
component_same types.U8 = refl
component_same types.I16 = refl
component_same types.Fixed = refl

pub placed_same : (p : PlacedAttr) → placed_back (placed_seen p) ≡ p
placed_same p i = record { attr = attribute_same p.attr i; kind = component_same p.kind i; count = p.count; offset = p.offset }
