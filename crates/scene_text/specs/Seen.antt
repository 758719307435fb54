-- The crate's types as the definitions see them.
use Rattle.std.specs.Prelude.{ℕ, List, map}
use Rattle.gfx_model.specs.Vertex as vertex
use Rattle.scene_model.specs.Scene as model
use Rattle.scene_model.specs.Journal as journals
use Rattle.gfx_words.specs.Kinds.{format_seen, program_seen, uniform_seen, value_seen, mode_seen}
use Rattle.fix_math.specs.Seen.{rect_seen, affine_seen}
use Rattle.vertex_layout.specs.Kinds.{attribute_seen, component_seen}
pub use Rattle.gfx_words.specs.Seen.{room_seen, entry_seen, own_source_seen}
pub use Rattle.view_table.specs.Seen.{clear_seen}
use Rattle.scene_text.specs.declared.scene.LayoutPart.{LayoutPart}
use Rattle.scene_text.specs.declared.scene.LayoutPart.TheVariants as parts
use Rattle.scene_text.specs.declared.scene.ResLine.{ResLine}
use Rattle.scene_text.specs.declared.scene.ResLine.TheVariants as resources
use Rattle.scene_text.specs.declared.scene.EncLine.{EncLine}
use Rattle.scene_text.specs.declared.scene.EncLine.TheVariants as lines
use Rattle.scene_text.specs.declared.scene.EncBlock.{EncBlock}
use Rattle.scene_text.specs.declared.scene.SceneFrame.{SceneFrame}
use Rattle.scene_text.specs.declared.scene.SceneName.{SceneName}
use Rattle.scene_text.specs.declared.scene.Scene.{Scene}
use Rattle.scene_text.specs.declared.journal.Journal.{Journal}

-- a part of a layout
abbrev pub part_seen : LayoutPart → vertex.LayoutPart
part_seen (parts.Attribute attr kind count) = vertex.attribute_part (attribute_seen attr) (component_seen kind) count
part_seen (parts.Skip bytes) = vertex.skip_part bytes

-- a line of the API thread
abbrev pub resource_line_seen : ResLine → model.ResourceLine
resource_line_seen (resources.Layout name ps) = model.layout_line name (map part_seen ps)
resource_line_seen (resources.VertexBuffer name layout bytes) = model.vertex_buffer_line name layout bytes
resource_line_seen (resources.IndexBuffer name bytes) = model.index_buffer_line name bytes
resource_line_seen (resources.Texture name width height format blit_dst source) =
    model.texture_line name width height (format_seen format) blit_dst (own_source_seen source)
resource_line_seen (resources.FrameBuffer name color depth) = model.frame_buffer_line name color depth
resource_line_seen (resources.Program name kind) = model.program_line name (program_seen kind)
resource_line_seen (resources.Uniform name kind) = model.uniform_line name (uniform_seen kind)
resource_line_seen (resources.Update name offset bytes) = model.update_line name offset bytes
resource_line_seen (resources.TexUpdate name rect bytes) = model.texel_update_line name (rect_seen rect) bytes
resource_line_seen (resources.Destroy name) = model.destroy_line name
resource_line_seen (resources.ViewRect view rect) = model.rect_line view (rect_seen rect)
resource_line_seen (resources.ViewScissor view rect) = model.view_scissor_line view (rect_seen rect)
resource_line_seen (resources.ViewClear view clear) = model.clear_line view (clear_seen clear)
resource_line_seen (resources.ViewMode view mode) = model.mode_line view (mode_seen mode)
resource_line_seen (resources.ViewTarget view target) = model.target_line view target
resource_line_seen (resources.ViewTransform view transform) = model.view_transform_line view (affine_seen transform)
resource_line_seen (resources.ViewReset view) = model.reset_line view
resource_line_seen (resources.Order views) = model.order_line views

-- a line of an encoder
abbrev pub encoder_line_seen : EncLine → model.EncoderLine
encoder_line_seen (lines.State word) = model.state_line word
encoder_line_seen (lines.Stencil front back) = model.stencil_line front back
encoder_line_seen (lines.Scissor rect) = model.scissor_line (rect_seen rect)
encoder_line_seen (lines.Transform transform) = model.transform_line (affine_seen transform.value)
encoder_line_seen (lines.Vertices buffer first count) = model.vertices_line buffer first count
encoder_line_seen (lines.Indices buffer first count) = model.indices_line buffer first count
encoder_line_seen (lines.TransientVertices layout bytes) = model.transient_vertices_line layout bytes
encoder_line_seen (lines.TransientIndices bytes) = model.transient_indices_line bytes
encoder_line_seen (lines.Bind stage texture) = model.bind_line stage texture
encoder_line_seen (lines.Set uniform value) = model.set_line uniform (value_seen value)
encoder_line_seen (lines.Submit view program depth flags) = model.submit_line view program depth flags
encoder_line_seen (lines.Touch view) = model.touch_line view
encoder_line_seen (lines.Blit view dst dx dy src sx sy w h) = model.blit_line view dst dx dy src sx sy w h

-- a block of an encoder's lines
abbrev pub block_seen : EncBlock → model.Block
block_seen b = record { encoder = b.encoder; lines = map encoder_line_seen b.lines }

-- a frame's lines
abbrev pub frame_seen : SceneFrame → model.SceneFrame
frame_seen f = record { before = map resource_line_seen f.before; blocks = map block_seen f.blocks; beside = map resource_line_seen f.beside }

-- a name's bytes
abbrev pub name_seen : SceneName → List ℕ
name_seen n = n.text

-- a scene
abbrev pub scene_seen : Scene → model.Scene
scene_seen s = record {
  version = s.version;
  width = s.width;
  height = s.height;
  encoders = s.encoders;
  room = room_seen s.room;
  latency = s.latency;
  names = map name_seen s.names;
  frames = map frame_seen s.frames;
}

-- a journal, frame by frame
abbrev pub journal_seen : Journal → journals.Journal
journal_seen j = map (map entry_seen) j.frames
