-- The fields of each line form, and the lines of blocks, frames and scenes.
use Rattle.std.specs.Prelude.{ℕ, Bool, true, false, List, [], ◌∷◌, ◌++◌, map, flat_map, codes}
use Rattle.std.specs.Fmt.{decimal, signed_decimal}
use Rattle.gfx_model.specs.Words.{UniformValue, vec4_value, int_value}
use Rattle.gfx_model.specs.Raster.{Rect}
use Rattle.gfx_model.specs.Views.{Clear, ViewChange, rect_change, scissor_change, clear_change, mode_change, transform_change, plain_change}
use Rattle.gfx_model.specs.Recorder.{Room}
use Rattle.scene_model.specs.Scene.{ResourceLine, layout_line, vertex_buffer_line, index_buffer_line, texture_line, frame_buffer_line, program_line, uniform_line, update_line, texel_update_line, destroy_line, view_line, target_line, order_line, EncoderLine, state_line, stencil_line, scissor_line, transform_line, vertices_line, indices_line, transient_vertices_line, transient_indices_line, bind_line, set_line, submit_line, touch_line, blit_line, Block, SceneFrame, Scene}
use Rattle.scene_model.specs.Grammar.{Field}
use Rattle.spelling_model.specs.FieldSpelling.{format_word, program_word, uniform_kind_word, mode_word, destination_word, hex_field, color_spelled, source_spelled, part_spelled, name_at, optional_name_at}

-- place, width and height
abbrev pub rect_spelled : Rect → List Field
rect_spelled r = decimal r.x ∷ decimal r.y ∷ decimal r.w ∷ decimal r.h ∷ []

-- the flags, and to what each part is cleared
abbrev pub clear_spelled : Clear → List Field
clear_spelled c = decimal c.flags ∷ color_spelled c.color ∷ decimal c.depth ∷ decimal c.stencil ∷ []

-- a `view` line: the view, what is set, and the values
abbrev pub view_spelled : ℕ → Field → List Field → List Field
view_spelled view setting values = codes "view" ∷ decimal view ∷ setting ∷ values

-- the word of what is set of a view
abbrev pub change_word : ViewChange → Field
change_word (rect_change r) = codes "rect"
change_word (scissor_change r) = codes "scissor"
change_word (clear_change clear) = codes "clear"
change_word (mode_change mode) = codes "mode"
change_word (transform_change m) = codes "transform"
change_word plain_change = codes "reset"

-- the values of what is set of a view
abbrev pub change_spelled : ViewChange → List Field
change_spelled (rect_change r) = rect_spelled r
change_spelled (scissor_change r) = rect_spelled r
change_spelled (clear_change clear) = clear_spelled clear
change_spelled (mode_change mode) = mode_word mode ∷ []
change_spelled (transform_change m) = map signed_decimal m
change_spelled plain_change = []

-- the fields of a resource line, where the names stand for places of the list
abbrev pub resource_fields : List Field → ResourceLine → List Field
resource_fields names (layout_line n parts) = codes "layout" ∷ name_at names n ∷ map part_spelled parts
resource_fields names (vertex_buffer_line n layout bytes) = codes "vb" ∷ name_at names n ∷ name_at names layout ∷ hex_field bytes ∷ []
resource_fields names (index_buffer_line n bytes) = codes "ib" ∷ name_at names n ∷ hex_field bytes ∷ []
resource_fields names (texture_line n width height format destination source) =
    codes "texture" ∷ name_at names n ∷ decimal width ∷ decimal height ∷ format_word format ∷ destination_word destination ∷ source_spelled source ∷ []
resource_fields names (frame_buffer_line n color depth) = codes "fb" ∷ name_at names n ∷ name_at names color ∷ optional_name_at names depth ∷ []
resource_fields names (program_line n kind) = codes "program" ∷ name_at names n ∷ program_word kind ∷ []
resource_fields names (uniform_line n kind) = codes "uniform" ∷ name_at names n ∷ uniform_kind_word kind ∷ []
resource_fields names (update_line n offset bytes) = codes "update" ∷ name_at names n ∷ decimal offset ∷ hex_field bytes ∷ []
resource_fields names (texel_update_line n r bytes) = codes "texupdate" ∷ name_at names n ∷ (rect_spelled r ++ hex_field bytes ∷ [])
resource_fields names (destroy_line n) = codes "destroy" ∷ name_at names n ∷ []
resource_fields names (view_line view c) = view_spelled view (change_word c) (change_spelled c)
resource_fields names (target_line view target) = view_spelled view (codes "target") (optional_name_at names target ∷ [])
resource_fields names (order_line views) = codes "order" ∷ map decimal views

-- one whole number, or four numbers of 1/65536
abbrev pub value_spelled : UniformValue → List Field
value_spelled (int_value z) = signed_decimal z ∷ []
value_spelled (vec4_value zs) = map signed_decimal zs

-- the fields of an encoder's line
abbrev pub encoder_fields : List Field → EncoderLine → List Field
encoder_fields names (state_line word) = codes "state" ∷ decimal word ∷ []
encoder_fields names (stencil_line front back) = codes "stencil" ∷ decimal front ∷ decimal back ∷ []
encoder_fields names (scissor_line r) = codes "scissor" ∷ rect_spelled r
encoder_fields names (transform_line m) = codes "transform" ∷ map signed_decimal m
encoder_fields names (vertices_line n first count) = codes "vertices" ∷ name_at names n ∷ decimal first ∷ decimal count ∷ []
encoder_fields names (indices_line n first count) = codes "indices" ∷ name_at names n ∷ decimal first ∷ decimal count ∷ []
encoder_fields names (transient_vertices_line layout bytes) = codes "tvertices" ∷ name_at names layout ∷ hex_field bytes ∷ []
encoder_fields names (transient_indices_line bytes) = codes "tindices" ∷ hex_field bytes ∷ []
encoder_fields names (bind_line stage texture) = codes "bind" ∷ decimal stage ∷ optional_name_at names texture ∷ []
encoder_fields names (set_line n value) = codes "set" ∷ name_at names n ∷ value_spelled value
encoder_fields names (submit_line view n depth flags) = codes "submit" ∷ decimal view ∷ name_at names n ∷ decimal depth ∷ decimal flags ∷ []
encoder_fields names (touch_line view) = codes "touch" ∷ decimal view ∷ []
encoder_fields names (blit_line view destination dx dy source sx sy w h) =
    codes "blit" ∷ decimal view ∷ name_at names destination ∷ decimal dx ∷ decimal dy ∷ name_at names source ∷ decimal sx ∷ decimal sy ∷ decimal w ∷ decimal h ∷ []

-- ---- blocks, frames and scenes, as lists of lines

-- an encoder's number, then its lines
abbrev pub block_lines : List Field → Block → List (List Field)
block_lines names b = (codes "encoder" ∷ decimal b.encoder ∷ []) ∷ map (encoder_fields names) b.lines

-- the lines beside the drawing, behind their `beside` line where that is written
abbrev pub beside_lines : List Field → Bool → List ResourceLine → List (List Field)
beside_lines names false lines = []
beside_lines names true lines = (codes "beside" ∷ []) ∷ map (resource_fields names) lines

-- the lines before the drawing, the blocks, and the lines beside it
abbrev pub frame_lines : List Field → Bool → SceneFrame → List (List Field)
frame_lines names with_beside f =
    (codes "frame" ∷ []) ∷ (map (resource_fields names) f.before ++ (flat_map (block_lines names) f.blocks ++ beside_lines names with_beside f.beside))

-- the lines of the frames, with one choice for each: whether its `beside` line is written
abbrev pub frames_lines : List Field → List Bool → List SceneFrame → List (List Field)
frames_lines names (b ∷ besides) (f ∷ frames) = frame_lines names b f ++ frames_lines names besides frames
frames_lines names _ _ = []

-- the `room` line, where it is written
abbrev pub room_lines : Bool → Room → List (List Field)
room_lines false room = []
room_lines true room = (codes "room" ∷ decimal room.items ∷ decimal room.bytes ∷ decimal room.uniforms ∷ []) ∷ []

-- the `latency` line, where it is written
abbrev pub latency_lines : Bool → ℕ → List (List Field)
latency_lines false latency = []
latency_lines true latency = (codes "latency" ∷ decimal latency ∷ []) ∷ []

-- the lines in front of the frames
abbrev pub head_lines : (with_room with_latency : Bool) → Scene → List (List Field)
head_lines with_room with_latency s =
    (codes "scene" ∷ decimal s.version ∷ []) ∷ (codes "size" ∷ decimal s.width ∷ decimal s.height ∷ []) ∷ (codes "encoders" ∷ decimal s.encoders ∷ [])
    ∷ (room_lines with_room s.room ++ latency_lines with_latency s.latency)

-- all lines of a scene, with or without its `room` line, its `latency` line and its `beside` lines
abbrev pub spelled_lines : (with_room with_latency : Bool) → List Bool → Scene → List (List Field)
spelled_lines with_room with_latency besides s = head_lines with_room with_latency s ++ (frames_lines s.names besides s.frames ++ (codes "done" ∷ []) ∷ [])
