-- Passes whose bands are out.
use Rattle.std.specs.Prelude.{ℕ, List, Option, option_map, IsSome}
use Rattle.gfx_model.specs.Words.{ProgramKind}
use Rattle.gfx_model.specs.World.{Surface}
use Rattle.store_model.specs.Slots.{at}
use Rattle.store_model.specs.Buffers.{Buffers}
use Rattle.store_model.specs.Textures.{Textures, target_back, IsOutAt}
use Rattle.store_laws.specs.ByIndex.{Stores}
use Rattle.int_raster.specs.Seen.{surface_seen, sides_seen}
use Rattle.pass_bands.specs.Drawn.{task_done}
use Rattle.pass_bands.specs.declared.works.Task.{Task}
use Rattle.view_drawing.specs.declared.lent_targets.LentTarget.{LentTarget}
use Rattle.view_drawing.specs.declared.lent_targets.LentTarget.TheVariants as targets

-- the stores with this surface as the target
abbrev pub stores_with : Surface → Textures → Buffers → List (Option ProgramKind) → LentTarget → Stores
stores_with s textures buffers programs targets.Back = record { back = s; buffers = buffers; textures = textures; programs = programs }
stores_with s textures buffers programs (targets.FrameBuffer index back) = record {
  back = surface_seen back;
  buffers = buffers;
  textures = target_back index s.color s.depth textures;
  programs = programs;
}

-- the stores with a task's surface as it is
abbrev pub stores_as : Task → Buffers → List (Option ProgramKind) → LentTarget → Stores
stores_as t buffers programs target = stores_with (surface_seen t.surface) t.work.textures buffers programs target

-- the stores after the draws of a task
abbrev pub stores_after : Task → Buffers → List (Option ProgramKind) → LentTarget → Stores
stores_after t buffers programs target = stores_with (task_done t) t.work.textures buffers programs target

-- the target is taken out, and has the sides of the task's surface
abbrev pub IsTaken : Task → LentTarget → Type 0
IsTaken t targets.Back = Unit {0}
IsTaken t (targets.FrameBuffer index back) = IsSome (at t.work.textures.targets index) × IsOutAt t.work.textures index (sides_seen t.surface.color) (option_map sides_seen t.surface.depth)
