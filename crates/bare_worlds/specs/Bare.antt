-- Frames of which no item is done: worlds, and stores by index.
use Rattle.std.specs.Prelude.{ℕ, List, [], ◌∷◌, fold, take}
use Rattle.gfx_model.specs.World.{World, begin_frame, frame_step, first_world}
use Rattle.store_laws.specs.ByIndex.{Stores, FrameData, first_stores, all_commanded}
use Rattle.scene_model.specs.Scene.{Scene}
use Rattle.scene_model.specs.Fold.{FramePlan, plans}
use Rattle.scene_model.specs.Journal.{frame_content}

-- the worlds in which the items of frames begin, where no item is done
abbrev pub bare_from : World → List FramePlan → List World
bare_from w [] = []
bare_from w (p ∷ ps) = begin_frame p.gone p.changes w ∷ bare_from (frame_step w (frame_content p [])) ps

-- the same of a scene
abbrev pub bare_worlds : Scene → List World
bare_worlds s = bare_from (first_world s.width s.height) (plans s)

-- the stores when a frame's first commands are executed
abbrev pub begun_by : Stores → FrameData → Stores
begun_by h f = all_commanded f.payloads h f.pre

-- the stores after a frame of which no item is done: its first commands, then its last ones
abbrev pub bare_after : Stores → FrameData → Stores
bare_after h f = all_commanded f.payloads (begun_by h f) f.post

-- the stores after frames of which no item is done, from empty ones with a back buffer of these sides
abbrev pub bare_stores : (width height : ℕ) → List FrameData → Stores
bare_stores width height fs = fold bare_after (first_stores (first_world width height).back) fs
