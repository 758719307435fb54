-- Kinds, formats, programs, uniforms, view modes and infos as the definitions see them, and back.
use Rattle.gfx_model.specs.Words as words
use Rattle.gfx_model.specs.Views as views
use Rattle.gfx_words.specs.declared.kinds.Kind.{Kind}
use Rattle.gfx_words.specs.declared.kinds.Kind.TheVariants as kinds
use Rattle.gfx_words.specs.declared.kinds.Format.{Format}
use Rattle.gfx_words.specs.declared.kinds.Format.TheVariants as formats
use Rattle.gfx_words.specs.declared.kinds.ProgramKind.{ProgramKind}
use Rattle.gfx_words.specs.declared.kinds.ProgramKind.TheVariants as programs
use Rattle.gfx_words.specs.declared.kinds.UniformKind.{UniformKind}
use Rattle.gfx_words.specs.declared.kinds.UniformKind.TheVariants as uniforms
use Rattle.gfx_words.specs.declared.kinds.UniformValue.{UniformValue}
use Rattle.gfx_words.specs.declared.kinds.UniformValue.TheVariants as values
use Rattle.gfx_words.specs.declared.kinds.ViewMode.{ViewMode}
use Rattle.gfx_words.specs.declared.kinds.ViewMode.TheVariants as modes
use Rattle.gfx_words.specs.declared.kinds.Info.{Info}
use Rattle.gfx_words.specs.declared.kinds.Info.TheVariants as infos

-- the kind of that name in the definitions
abbrev pub kind_seen : Kind → words.Kind
kind_seen kinds.Layout = words.layout_kind
kind_seen kinds.VertexBuffer = words.vertex_buffer_kind
kind_seen kinds.IndexBuffer = words.index_buffer_kind
kind_seen kinds.Texture = words.texture_kind
kind_seen kinds.FrameBuffer = words.frame_buffer_kind
kind_seen kinds.Program = words.program_kind
kind_seen kinds.Uniform = words.uniform_kind

-- the format of that name
abbrev pub format_seen : Format → words.Format
format_seen formats.Rgba8 = words.rgba8
format_seen formats.D24S8 = words.d24s8

-- the kind of program of that name
abbrev pub program_seen : ProgramKind → words.ProgramKind
program_seen programs.Solid = words.solid
program_seen programs.Color = words.vertex_color
program_seen programs.Texture = words.textured
program_seen programs.TexColor = words.textured_color

-- the kind of uniform of that name
abbrev pub uniform_seen : UniformKind → words.UniformKind
uniform_seen uniforms.Vec4 = words.vec4
uniform_seen uniforms.Int = words.int

-- a uniform's value of the same kind and numbers
abbrev pub value_seen : UniformValue → words.UniformValue
value_seen (values.Vec4 v) = words.vec4_value v
value_seen (values.Int v) = words.int_value v

-- the view mode of that name
abbrev pub mode_seen : ViewMode → views.ViewMode
mode_seen modes.Default = views.default_mode
mode_seen modes.Sequential = views.sequential_mode
mode_seen modes.DepthAscending = views.ascending_mode
mode_seen modes.DepthDescending = views.descending_mode

-- what a handle tells besides its name
abbrev pub info_seen : Info → words.Info
info_seen infos.Plain = words.plain
info_seen (infos.Texture format blit_dst width height) = words.texture_info (format_seen format) blit_dst width height
info_seen (infos.Uniform k) = words.uniform_info (uniform_seen k)

-- ---- and back

-- the code's kind for one of the definitions
abbrev pub kind_of_seen : words.Kind → Kind
kind_of_seen words.layout_kind = kinds.Layout
kind_of_seen words.vertex_buffer_kind = kinds.VertexBuffer
kind_of_seen words.index_buffer_kind = kinds.IndexBuffer
kind_of_seen words.texture_kind = kinds.Texture
kind_of_seen words.frame_buffer_kind = kinds.FrameBuffer
kind_of_seen words.program_kind = kinds.Program
kind_of_seen words.uniform_kind = kinds.Uniform

-- the code's format
abbrev pub format_of_seen : words.Format → Format
format_of_seen words.rgba8 = formats.Rgba8
format_of_seen words.d24s8 = formats.D24S8

-- the code's kind of uniform
abbrev pub uniform_of_seen : words.UniformKind → UniformKind
uniform_of_seen words.vec4 = uniforms.Vec4
uniform_of_seen words.int = uniforms.Int

-- the code's info
abbrev pub info_of_seen : words.Info → Info
info_of_seen words.plain = infos.Plain
info_of_seen (words.texture_info format blit_destination width height) =
    infos.Texture (format_of_seen format) blit_destination width height
info_of_seen (words.uniform_info k) = infos.Uniform (uniform_of_seen k)
