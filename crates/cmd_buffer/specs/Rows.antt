-- Rows of commands as bytes, and a row that is being written.
use Rattle.std.specs.Prelude.{◌≡◌, ℕ, ◌<◌, ◌≤◌, true, List, [], ◌∷◌, length}
use Rattle.std.specs.List.{flat_map}
use Rattle.gfx_model.specs.Commands.{Command, create_layout_command, create_vertex_buffer_command, create_index_buffer_command, create_texture_command, create_frame_buffer_command, create_program_command, create_uniform_command, update_buffer_command, update_texture_command, destroy_command, command_bytes, buffer_bytes}
use Rattle.vertex_layout.specs.Layouts.{is_layout}

-- the commands so far, and how many bytes more fit without taking memory
pub record Writing : Type 0 where
  pub commands : List Command
  pub spare : ℕ

-- a number of two bytes
abbrev pub Fits16 : ℕ → Type 0
Fits16 n = n < 65536

-- a number of four bytes
abbrev pub Fits32 : ℕ → Type 0
Fits32 n = n < 4294967296

-- whether each field fits its bytes
abbrev pub Fits : Command → Type 0
Fits (create_layout_command index l) = Fits16 index × (is_layout l ≡ true)
Fits (create_vertex_buffer_command index layout payload) = Fits16 index × Fits16 layout × Fits32 payload
Fits (create_index_buffer_command index payload) = Fits16 index × Fits32 payload
Fits (create_texture_command index width height format blit_destination source value) = Fits16 index × Fits16 width × Fits16 height × Fits32 value
Fits (create_frame_buffer_command index color depth) = Fits16 index × Fits16 color × Fits16 depth
Fits (create_program_command index kind) = Fits16 index
Fits (create_uniform_command index serial kind payload) = Fits16 index × Fits32 serial × Fits32 payload
Fits (update_buffer_command kind index offset payload) = Fits16 index × Fits32 offset × Fits32 payload
Fits (update_texture_command index x y w h payload) = Fits16 index × Fits16 x × Fits16 y × Fits16 w × Fits16 h × Fits32 payload
Fits (destroy_command kind index) = Fits16 index

-- the fields of each command fit
abbrev pub AllFit : List Command → Type 0
AllFit [] = Unit {0}
AllFit (c ∷ cs) = Fits c × AllFit cs

-- bytes that are whole commands
pub record IsRow (bytes : List ℕ) : Type 0 where
  pub commands : List Command
  pub fit : AllFit commands
  pub is : bytes ≡ flat_map command_bytes commands

-- the same with the end word behind them
pub record IsBuffer (bytes : List ℕ) : Type 0 where
  pub commands : List Command
  pub fit : AllFit commands
  pub is : bytes ≡ buffer_bytes commands

-- a command whose fields fit has few bytes: a layout has at most seven attributes
abbrev pub FewBytes : Type 0
FewBytes = (c : Command) → Fits c → length (command_bytes c) ≤ 33
