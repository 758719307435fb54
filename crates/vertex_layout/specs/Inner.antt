-- A layout's fields: the attributes, the stride, and the three attributes that a vertex is made of, looked up once.
use Rattle.std.specs.Prelude.{◌≡◌, true, Option, Some, None, option_map, refl}
use Rattle.std.proofs.Common.{ap, sym, ◌∙◌}
use Rattle.gfx_model.specs.Vertex.{Layout, PlacedAttribute, position_attribute, color0_attribute, texcoord0_attribute, find_attribute}
use Rattle.vertex_layout.specs.declared.attributes.PlacedAttr.{PlacedAttr}
use Rattle.vertex_layout.specs.declared.layout.VertexLayout.TheInside.{Inside}
use Rattle.vertex_layout.specs.Placed.{placed_seen, placed_back, placed_same}
use Rattle.vertex_layout.specs.Layouts.{is_layout}

-- a layout's attributes and stride
abbrev pub view_of : Inside → Layout
view_of s = record { attributes = s.attributes; stride = s.stride }

-- the attributes are a layout's, and the three that are looked up are found among them
pub record IsInside (s : Inside) : Type 0 where
  pub whole : is_layout (view_of s) ≡ true
  pub position : option_map placed_seen s.position ≡ find_attribute position_attribute s.attributes
  pub color : option_map placed_seen s.color ≡ find_attribute color0_attribute s.attributes
  pub texcoord : option_map placed_seen s.texcoord ≡ find_attribute texcoord0_attribute s.attributes

-- the fields that hold a layout
abbrev pub inside_of : Layout → Inside
inside_of l = record {
  attributes = l.attributes;
  stride = l.stride;
  position = option_map placed_back (find_attribute position_attribute l.attributes);
  color = option_map placed_back (find_attribute color0_attribute l.attributes);
  texcoord = option_map placed_back (find_attribute texcoord0_attribute l.attributes);
}

back_again : (o : Option PlacedAttr) → option_map placed_back (option_map placed_seen o) ≡ o
back_again None = refl
back_again (Some p) = ap Some (placed_same p)

found_again : (o : Option PlacedAttr) (found : Option PlacedAttribute) → option_map placed_seen o ≡ found → option_map placed_back found ≡ o
found_again o found e = ap (option_map placed_back) (sym e) ∙ back_again o

pub inside_of-view : (s : Inside) → IsInside s → inside_of (view_of s) ≡ s
inside_of-view s h i = record {
  attributes = s.attributes;
  stride = s.stride;
  position = found_again s.position (find_attribute position_attribute s.attributes) h.position i;
  color = found_again s.color (find_attribute color0_attribute s.attributes) h.color i;
  texcoord = found_again s.texcoord (find_attribute texcoord0_attribute s.attributes) h.texcoord i;
}
