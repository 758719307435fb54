-- Commands as the definitions see them.
use Rattle.gfx_model.specs.Commands as model
use Rattle.cmd_buffer.specs.declared.command.Command.{Command}
use Rattle.cmd_buffer.specs.declared.command.Command.TheVariants as commands

-- the command of that name with the same numbers
abbrev pub command_seen : Command → model.Command
command_seen (commands.CreateLayout index layout) = model.create_layout_command index layout
command_seen (commands.CreateVertexBuffer index layout payload) = model.create_vertex_buffer_command index layout payload
command_seen (commands.CreateIndexBuffer index payload) = model.create_index_buffer_command index payload
command_seen (commands.CreateTexture index width height format blit_dst source value) = model.create_texture_command index width height format blit_dst source value
command_seen (commands.CreateFrameBuffer index color depth) = model.create_frame_buffer_command index color depth
command_seen (commands.CreateProgram index kind) = model.create_program_command index kind
command_seen (commands.CreateUniform index serial kind payload) = model.create_uniform_command index serial kind payload
command_seen (commands.UpdateBuffer kind index offset payload) = model.update_buffer_command kind index offset payload
command_seen (commands.UpdateTexture index x y w h payload) = model.update_texture_command index x y w h payload
command_seen (commands.Destroy kind index) = model.destroy_command kind index
