-- The bounds that every scene keeps that is read of a text of at most 4,294,967,294 bytes.
use Rattle.std.specs.Prelude.{◌≡◌, ℕ, ◌^◌, ◌≤◌, ◌<◌, List, [], ◌∷◌, ◌++◌, length, Option, None, Some}
use Rattle.std.specs.List.{All, AllByRecursion}
use Rattle.scene_model.specs.Scene.{Name, ResourceLine, layout_line, vertex_buffer_line, index_buffer_line, texture_line, frame_buffer_line, program_line, uniform_line, update_line, texel_update_line, destroy_line, target_line, EncoderLine, vertices_line, indices_line, transient_vertices_line, bind_line, set_line, submit_line, blit_line, SceneFrame, Scene, HasSides, newest_version, greatest_latency}
use Rattle.spelling_model.specs.Readable.{AreAscending, IsRoom}

-- the blocks of a frame ascend, and each is of an encoder of the scene
pub record HasBlocks (encoders : ℕ) (f : SceneFrame) : Type 0 where
  pub ascending : AreAscending f.blocks
  pub below : All (λ b. b.encoder < encoders) f.blocks

-- the name, where there is one
abbrev pub some_name : Option Name → List Name
some_name None = []
some_name (Some n) = n ∷ []

-- the names of a resource or view line
abbrev pub resource_names : ResourceLine → List Name
resource_names (layout_line n parts) = n ∷ []
resource_names (vertex_buffer_line n layout bytes) = n ∷ layout ∷ []
resource_names (index_buffer_line n bytes) = n ∷ []
resource_names (texture_line n width height format destination source) = n ∷ []
resource_names (frame_buffer_line n color depth) = n ∷ color ∷ some_name depth
resource_names (program_line n kind) = n ∷ []
resource_names (uniform_line n kind) = n ∷ []
resource_names (update_line n offset bytes) = n ∷ []
resource_names (texel_update_line n rect bytes) = n ∷ []
resource_names (destroy_line n) = n ∷ []
resource_names (target_line view target) = some_name target
resource_names _ = []

-- the names of an encoder's line
abbrev pub encoder_names : EncoderLine → List Name
encoder_names (vertices_line n first count) = n ∷ []
encoder_names (indices_line n first count) = n ∷ []
encoder_names (transient_vertices_line layout bytes) = layout ∷ []
encoder_names (bind_line stage texture) = some_name texture
encoder_names (set_line n value) = n ∷ []
encoder_names (submit_line view n depth flags) = n ∷ []
encoder_names (blit_line view destination dx dy source sx sy w h) = destination ∷ source ∷ []
encoder_names _ = []

-- each name is a place of the list of names
abbrev pub AreBelow : (count : ℕ) → List Name → Type 0
AreBelow count names = AllByRecursion (λ n. n < count) names

-- the names of a frame's lines are places of the list of names
pub record HasNames (count : ℕ) (f : SceneFrame) : Type 0 where
  pub before : All (λ l. AreBelow count (resource_names l)) f.before
  pub blocks : All (λ b. All (λ l. AreBelow count (encoder_names l)) b.lines) f.blocks
  pub beside : All (λ l. AreBelow count (resource_names l)) f.beside

-- the lines of each part of a frame are counted by a u32
pub record HasFewLines (f : SceneFrame) : Type 0 where
  pub before : length f.before < 2 ^ 32
  pub blocks : All (λ b. length b.lines < 2 ^ 32) f.blocks
  pub beside : length f.beside < 2 ^ 32

-- the bounds of a scene
pub record IsBounded (s : Scene) : Type 0 where
  pub known_version : (1 ≤ s.version) × (s.version ≤ newest_version)
  pub sides : HasSides s
  pub encoders : (1 ≤ s.encoders) × (s.encoders ≤ 8)
  pub room : IsRoom s.room
  pub latency : (1 ≤ s.latency) × (s.latency ≤ greatest_latency)
  pub one_out : s.version ≡ 1 → s.latency ≡ 1
  pub some_frame : 1 ≤ length s.frames
  pub few_frames : length s.frames ≤ 1024
  pub blocks : All (HasBlocks s.encoders) s.frames
  pub names : All (HasNames (length s.names)) s.frames
  pub lines : All HasFewLines s.frames
