-- Which placed attributes and strides are layouts.
use Rattle.std.specs.Prelude.{ℕ, Bool, ◌&&◌, nat_le, List}
use Rattle.std.specs.List.{list_all}
use Rattle.gfx_model.specs.Vertex.{Layout, Vertex, position_attribute, color0_attribute, texcoord0_attribute, has_good_attributes, components_of, position_of, color_of, texcoord_of}
use Rattle.vertex_layout.specs.Placed.{ends_within}

-- whether the stride is 1 to 255, and the attributes are good and end within it
abbrev pub is_layout : Layout → Bool
is_layout l = nat_le 1 l.stride && nat_le l.stride 255 && has_good_attributes l.attributes && list_all (ends_within l.stride) l.attributes

-- the vertex whose bytes begin at a place
abbrev pub vertex_at : Layout → List ℕ → ℕ → Vertex
vertex_at layout bytes at = record {
  position = position_of (components_of layout position_attribute bytes at);
  color = color_of (components_of layout color0_attribute bytes at);
  texcoord = texcoord_of (components_of layout texcoord0_attribute bytes at);
}
