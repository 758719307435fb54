-- The state of the calls without contents: what no refusal reads and no call moves is left out.
use Rattle.std.specs.Prelude.{[], map, length, replicate}
use Rattle.gfx_model.specs.Words.{value_kind}
use Rattle.gfx_model.specs.World.{Content, layout_content, vertex_content, index_content, texture_content, frame_buffer_content, program_content, uniform_content}
use Rattle.gfx_model.specs.Resources.{Thing, Resources, no_layout, zero_value}

-- a content without its bytes, texels and value; how many bytes, the sides, layouts, attachments, programs and names stay
abbrev pub bare_content : Content → Content
bare_content (layout_content l) = layout_content l
bare_content (vertex_content l bytes) = vertex_content no_layout (replicate (length bytes) 0)
bare_content (index_content bytes) = index_content (replicate (length bytes) 0)
bare_content (texture_content f t) = texture_content f (record t { texels = [] })
bare_content (frame_buffer_content color depth) = frame_buffer_content color depth
bare_content (program_content k) = program_content k
bare_content (uniform_content name v) = uniform_content name (zero_value (value_kind v))

-- a thing with its content bared
abbrev pub bare : Thing → Thing
bare t = record t { content = bare_content t.content }

-- the state with each content bared
abbrev pub bare_of : Resources → Resources
bare_of r = record r { things = map bare r.things }
