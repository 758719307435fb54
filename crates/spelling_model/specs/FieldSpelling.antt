-- How each kind of field is spelled: numbers, words, bytes, colours, parts and names.
use Rattle.std.specs.Prelude.{ℕ, ◌+◌, ◌/◌, ◌%◌, nat_lt, Bool, true, false, if◌then◌else◌, List, [], ◌∷◌, ◌++◌, flat_map, Option, Some, None, slice_index_or, codes}
use Rattle.std.specs.Fmt.{decimal}
use Rattle.gfx_model.specs.Vertex.{Color, Attribute, position_attribute, normal_attribute, tangent_attribute, color0_attribute, color1_attribute, texcoord0_attribute, texcoord1_attribute, ComponentType, u8_type, i16_type, fixed_type, LayoutPart, attribute_part, skip_part}
use Rattle.gfx_model.specs.Words.{Format, rgba8, d24s8, ProgramKind, solid, vertex_color, textured, textured_color, UniformKind, vec4, int}
use Rattle.gfx_model.specs.Views.{ViewMode, default_mode, sequential_mode, ascending_mode, descending_mode}
use Rattle.gfx_model.specs.Resources.{TexelSource, fill_source, bytes_source}
use Rattle.scene_model.specs.Grammar.{Field}

-- ---- words

-- the format of a texture
abbrev pub format_word : Format → Field
format_word rgba8 = codes "rgba8"
format_word d24s8 = codes "d24s8"

-- how a program paints
abbrev pub program_word : ProgramKind → Field
program_word solid = codes "solid"
program_word vertex_color = codes "color"
program_word textured = codes "texture"
program_word textured_color = codes "texcolor"

-- what a uniform holds
abbrev pub uniform_kind_word : UniformKind → Field
uniform_kind_word vec4 = codes "vec4"
uniform_kind_word int = codes "int"

-- in which order a view draws
abbrev pub mode_word : ViewMode → Field
mode_word default_mode = codes "default"
mode_word sequential_mode = codes "sequential"
mode_word ascending_mode = codes "ascending"
mode_word descending_mode = codes "descending"

-- whether a texture may be a blit's destination
abbrev pub destination_word : Bool → Field
destination_word true = codes "dst"
destination_word false = codes "-"

-- what an attribute of a vertex is
abbrev pub attribute_word : Attribute → Field
attribute_word position_attribute = codes "position"
attribute_word normal_attribute = codes "normal"
attribute_word tangent_attribute = codes "tangent"
attribute_word color0_attribute = codes "color0"
attribute_word color1_attribute = codes "color1"
attribute_word texcoord0_attribute = codes "texcoord0"
attribute_word texcoord1_attribute = codes "texcoord1"

-- the type of an attribute's components
abbrev pub component_word : ComponentType → Field
component_word u8_type = codes "u8"
component_word i16_type = codes "i16"
component_word fixed_type = codes "fixed"

-- ---- bytes and colours

-- 0 to 9, then a to f
abbrev pub hex_digit : ℕ → ℕ
hex_digit n = if nat_lt n 10 then 48 + n else 87 + n

-- a byte by its high and its low digit
abbrev pub hex_pair : ℕ → Field
hex_pair byte = hex_digit (byte / 16) ∷ hex_digit (byte % 16) ∷ []

-- two digits for each byte, and `-` for no bytes
abbrev pub hex_field : List ℕ → Field
hex_field [] = codes "-"
hex_field (byte ∷ bytes) = flat_map hex_pair (byte ∷ bytes)

-- two digits for each of red, green, blue and alpha
abbrev pub color_spelled : Color → Field
color_spelled color = flat_map hex_pair color

-- the texels of a new texture: one colour, or their bytes
abbrev pub source_spelled : TexelSource → Field
source_spelled (fill_source color) = codes "fill:" ++ color_spelled color
source_spelled (bytes_source bytes) = codes "hex:" ++ hex_field bytes

-- ---- parts of a layout

-- a part's pieces stand between colons
abbrev pub part_spelled : LayoutPart → Field
part_spelled (attribute_part attribute component count) = attribute_word attribute ++ (codes ":" ++ (component_word component ++ (codes ":" ++ decimal count)))
part_spelled (skip_part bytes) = codes "skip:" ++ decimal bytes

-- ---- names

-- the text at a name's place of the scene's list of names
abbrev pub name_at : List Field → ℕ → Field
name_at names n = slice_index_or names n []

-- the same, or `-` for none
abbrev pub optional_name_at : List Field → Option ℕ → Field
optional_name_at names None = codes "-"
optional_name_at names (Some n) = name_at names n
