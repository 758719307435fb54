-- The words of lines as the definitions see them.
use Rattle.scene_model.specs.Grammar as model
use Rattle.scene_text.specs.declared.words.Word.{Word}
use Rattle.scene_text.specs.declared.words.Word.TheVariants as words
use Rattle.scene_text.specs.declared.words.Setting.{Setting}
use Rattle.scene_text.specs.declared.words.Setting.TheVariants as settings

-- the first word of a line
abbrev pub word_seen : Word → model.Word
word_seen words.Scene = model.scene_word
word_seen words.Size = model.size_word
word_seen words.Encoders = model.encoders_word
word_seen words.Room = model.room_word
word_seen words.Latency = model.latency_word
word_seen words.Frame = model.frame_word
word_seen words.Encoder = model.encoder_word
word_seen words.Beside = model.beside_word
word_seen words.Done = model.done_word
word_seen words.Journal = model.journal_word
word_seen words.Layout = model.layout_word
word_seen words.VertexBuffer = model.vertex_buffer_word
word_seen words.IndexBuffer = model.index_buffer_word
word_seen words.Texture = model.texture_word
word_seen words.FrameBuffer = model.frame_buffer_word
word_seen words.Program = model.program_word
word_seen words.Uniform = model.uniform_word
word_seen words.Update = model.update_word
word_seen words.TexUpdate = model.texel_update_word
word_seen words.Destroy = model.destroy_word
word_seen words.View = model.view_word
word_seen words.Order = model.order_word
word_seen words.State = model.state_word
word_seen words.Stencil = model.stencil_word
word_seen words.Scissor = model.scissor_word
word_seen words.Transform = model.transform_word
word_seen words.Vertices = model.vertices_word
word_seen words.Indices = model.indices_word
word_seen words.TransientVertices = model.transient_vertices_word
word_seen words.TransientIndices = model.transient_indices_word
word_seen words.Bind = model.bind_word
word_seen words.Set = model.set_word
word_seen words.Submit = model.submit_word
word_seen words.Touch = model.touch_word
word_seen words.Blit = model.blit_word

-- the setting that a `view` line names
abbrev pub setting_seen : Setting → model.Setting
setting_seen settings.Rect = model.rect_setting
setting_seen settings.Scissor = model.scissor_setting
setting_seen settings.Clear = model.clear_setting
setting_seen settings.Mode = model.mode_setting
setting_seen settings.Target = model.target_setting
setting_seen settings.Transform = model.transform_setting
setting_seen settings.Reset = model.reset_setting
