-- Which command stands at the front of bytes: the reading of command bytes, form by form.
use Rattle.std.specs.Prelude.{ℕ, zero, suc, ◌+◌, ◌*◌, ◌==◌, nat_le, if◌then◌else◌, List, [], ◌∷◌, ◌++◌, length, drop, slice_index, Option, Some, None, option_map}
use Rattle.std.specs.Option.{option_and_then}
use Rattle.gfx_model.specs.Number.{u16_at, u32_at}
use Rattle.gfx_model.specs.Vertex.{Attribute, position_attribute, normal_attribute, tangent_attribute, color0_attribute, color1_attribute, texcoord0_attribute, texcoord1_attribute, ComponentType, u8_type, i16_type, fixed_type, PlacedAttribute, Layout}
use Rattle.gfx_model.specs.Commands.{Command, create_layout_command, create_vertex_buffer_command, create_index_buffer_command, create_texture_command, create_frame_buffer_command, create_program_command, create_uniform_command, update_buffer_command, update_texture_command, destroy_command}
use Rattle.vertex_layout.specs.Placed.{is_addable}
use Rattle.vertex_layout.specs.Layouts.{is_layout}

-- ---- layouts

-- the attribute that a byte names, if it names one
abbrev pub attribute_of_number : ℕ → Option Attribute
attribute_of_number n =
    if n == 0 then Some position_attribute
    else (if n == 1 then Some normal_attribute
    else (if n == 2 then Some tangent_attribute
    else (if n == 3 then Some color0_attribute
    else (if n == 4 then Some color1_attribute
    else (if n == 5 then Some texcoord0_attribute
    else (if n == 6 then Some texcoord1_attribute else None))))))

-- the component type that a byte names, if it names one
abbrev pub component_of_number : ℕ → Option ComponentType
component_of_number n = if n == 0 then Some u8_type else (if n == 1 then Some i16_type else (if n == 2 then Some fixed_type else None))

-- an attribute of that count and offset, where both names are known
abbrev pub placed_of : ℕ → ℕ → Option Attribute → Option ComponentType → Option PlacedAttribute
placed_of count offset (Some a) (Some t) = Some (record { attribute = a; component = t; count = count; offset = offset })
placed_of count offset _ _ = None

-- the attribute of the first four bytes
abbrev pub placed_in : List ℕ → Option PlacedAttribute
placed_in b = placed_of (slice_index b 2) (slice_index b 3) (attribute_of_number (slice_index b 0)) (component_of_number (slice_index b 1))

-- goes on with one attribute more, where it may stand behind those before
abbrev pub next_attribute : (List PlacedAttribute → Option (List PlacedAttribute)) → List PlacedAttribute → Option PlacedAttribute → Option (List PlacedAttribute)
next_attribute f placed None = None
next_attribute f placed (Some p) = if is_addable p placed then f (placed ++ p ∷ []) else None

-- attributes with so many more of the bytes behind them
abbrev pub attributes_from : List PlacedAttribute → ℕ → List ℕ → Option (List PlacedAttribute)
attributes_from placed zero b = Some placed
attributes_from placed (suc n) b = next_attribute (λ ps. attributes_from ps n (drop 4 b)) placed (placed_in b)

-- a layout that keeps the rules of layouts
abbrev pub layout_or_none : Layout → Option Layout
layout_or_none l = if is_layout l then Some l else None

-- the layout of attributes and a stride, if it is one
abbrev pub with_stride : ℕ → List PlacedAttribute → Option Layout
with_stride stride placed = layout_or_none (record { attributes = placed; stride = stride })

-- the layout of so many attributes and the stride behind them
abbrev pub layout_in : ℕ → List ℕ → Option Layout
layout_in n b = option_and_then (with_stride (slice_index b (4 * n))) (attributes_from [] n b)

-- ---- commands

-- a command with the bytes behind its own
abbrev pub with_rest : ℕ → List ℕ → Option Command → Option (Command × List ℕ)
with_rest n b o = option_map (λ c. (c, drop n b)) o

-- the form where there are enough bytes for it
abbrev pub of_length : ℕ → (List ℕ → Option Command) → List ℕ → Option (Command × List ℕ)
of_length n form b = if nat_le n (length b) then with_rest n b (form b) else None

-- `index, count, attributes, stride`
abbrev pub layout_form : List ℕ → Option Command
layout_form b = option_map (λ l. create_layout_command (u16_at b 0) l) (layout_in (slice_index b 2) (drop 3 b))

-- the same, where the bytes of so many attributes are there
abbrev pub layout_command : List ℕ → Option (Command × List ℕ)
layout_command b = if nat_le 3 (length b) then of_length (4 + 4 * slice_index b 2) layout_form b else None

-- `index, layout, payload`
abbrev pub vertex_buffer_form : List ℕ → Option Command
vertex_buffer_form b = Some (create_vertex_buffer_command (u16_at b 0) (u16_at b 2) (u32_at b 4))

-- `index, payload`
abbrev pub index_buffer_form : List ℕ → Option Command
index_buffer_form b = Some (create_index_buffer_command (u16_at b 0) (u32_at b 2))

-- `index, width, height, format, whether a blit's destination, source, its value`
abbrev pub texture_form : List ℕ → Option Command
texture_form b = Some (create_texture_command (u16_at b 0) (u16_at b 2) (u16_at b 4) (slice_index b 6) (slice_index b 7) (slice_index b 8) (u32_at b 9))

-- `index, colour, depth`
abbrev pub frame_buffer_form : List ℕ → Option Command
frame_buffer_form b = Some (create_frame_buffer_command (u16_at b 0) (u16_at b 2) (u16_at b 4))

-- `index, kind`
abbrev pub program_form : List ℕ → Option Command
program_form b = Some (create_program_command (u16_at b 0) (slice_index b 2))

-- `index, serial, kind, payload`
abbrev pub uniform_form : List ℕ → Option Command
uniform_form b = Some (create_uniform_command (u16_at b 0) (u32_at b 2) (slice_index b 6) (u32_at b 7))

-- `kind, index, offset, payload`
abbrev pub update_buffer_form : List ℕ → Option Command
update_buffer_form b = Some (update_buffer_command (slice_index b 0) (u16_at b 1) (u32_at b 3) (u32_at b 7))

-- `index, x, y, width, height, payload`
abbrev pub update_texture_form : List ℕ → Option Command
update_texture_form b = Some (update_texture_command (u16_at b 0) (u16_at b 2) (u16_at b 4) (u16_at b 6) (u16_at b 8) (u32_at b 10))

-- `kind, index`
abbrev pub destroy_form : List ℕ → Option Command
destroy_form b = Some (destroy_command (slice_index b 0) (u16_at b 1))

-- the numbers from 6 on
abbrev pub by_later_number : ℕ → List ℕ → Option (Command × List ℕ)
by_later_number n b =
    if n == 6 then of_length 3 program_form b
    else (if n == 7 then of_length 11 uniform_form b
    else (if n == 8 then of_length 11 update_buffer_form b
    else (if n == 9 then of_length 14 update_texture_form b
    else (if n == 10 then of_length 3 destroy_form b else None))))

-- the command of a first byte, by the bytes behind it
abbrev pub by_number : ℕ → List ℕ → Option (Command × List ℕ)
by_number n b =
    if n == 1 then layout_command b
    else (if n == 2 then of_length 8 vertex_buffer_form b
    else (if n == 3 then of_length 6 index_buffer_form b
    else (if n == 4 then of_length 13 texture_form b
    else (if n == 5 then of_length 6 frame_buffer_form b else by_later_number n b))))

-- the first command and the bytes behind it; none at the end word
abbrev pub decoded : List ℕ → Option (Command × List ℕ)
decoded [] = None
decoded (n ∷ b) = by_number n b

-- a command in front of those that its rest holds
abbrev pub next_for : (List ℕ → List Command) → Option (Command × List ℕ) → List Command
next_for f None = []
next_for f (Some p) = p.0 ∷ f p.1

-- at most so many commands
unfoldable pub commands_for : ℕ → List ℕ → List Command
commands_for zero b = []
commands_for (suc n) b = next_for (commands_for n) (decoded b)

-- the commands that bytes hold, up to the end word
abbrev pub commands_in : List ℕ → List Command
commands_in b = commands_for (length b) b
