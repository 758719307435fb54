-- Attributes and component types as the definitions see them, and back.
use Rattle.gfx_model.specs.Vertex as model
use Rattle.vertex_layout.specs.declared.attributes.Attr.{Attr}
use Rattle.vertex_layout.specs.declared.attributes.Attr.TheVariants as attrs
use Rattle.vertex_layout.specs.declared.attributes.AttrType.{AttrType}
use Rattle.vertex_layout.specs.declared.attributes.AttrType.TheVariants as types

-- the attribute of that name in the definitions
abbrev pub attribute_seen : Attr → model.Attribute
attribute_seen attrs.Position = model.position_attribute
attribute_seen attrs.Normal = model.normal_attribute
attribute_seen attrs.Tangent = model.tangent_attribute
attribute_seen attrs.Color0 = model.color0_attribute
attribute_seen attrs.Color1 = model.color1_attribute
attribute_seen attrs.Texcoord0 = model.texcoord0_attribute
attribute_seen attrs.Texcoord1 = model.texcoord1_attribute

-- the component type of that name
abbrev pub component_seen : AttrType → model.ComponentType
component_seen types.U8 = model.u8_type
component_seen types.I16 = model.i16_type
component_seen types.Fixed = model.fixed_type

-- the code's attribute for one of the definitions
abbrev pub attribute_back : model.Attribute → Attr
attribute_back model.position_attribute = attrs.Position
attribute_back model.normal_attribute = attrs.Normal
attribute_back model.tangent_attribute = attrs.Tangent
attribute_back model.color0_attribute = attrs.Color0
attribute_back model.color1_attribute = attrs.Color1
attribute_back model.texcoord0_attribute = attrs.Texcoord0
attribute_back model.texcoord1_attribute = attrs.Texcoord1

-- the code's component type
abbrev pub component_back : model.ComponentType → AttrType
component_back model.u8_type = types.U8
component_back model.i16_type = types.I16
component_back model.fixed_type = types.Fixed
