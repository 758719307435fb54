-- Which commands take memory, and what is executed where it is missing.
use Rattle.std.specs.Prelude.{◌≡◌, ◌≢◌, ℕ, Bool, true, false, List, take, Some}
use Rattle.std.specs.List.{slice_get}
use Rattle.gfx_model.specs.Commands.{Command, create_vertex_buffer_command, create_index_buffer_command, create_texture_command, create_uniform_command}
use Rattle.store_laws.specs.ByIndex.{Stores, after_command, all_commanded}

-- a command takes memory where it copies a payload for a thing of its own, or makes texels
abbrev pub takes_memory : Command → Bool
takes_memory (create_vertex_buffer_command index layout payload) = true
takes_memory (create_index_buffer_command index payload) = true
takes_memory (create_texture_command index width height format blit_destination source value) = true
takes_memory (create_uniform_command index serial kind payload) = true
takes_memory _ = false

-- the commands before one that takes memory, and that would have changed the stores, were executed, and no other
pub record IsStopped (payloads : List (List ℕ)) (row : List Command) (old new : Stores) : Type 0 where
  pub before : ℕ
  pub command : Command
  pub there : slice_get row before ≡ Some command
  pub takes : takes_memory command ≡ true
  pub changes : after_command payloads new command ≢ new
  pub executed : new ≡ all_commanded payloads old (take before row)
