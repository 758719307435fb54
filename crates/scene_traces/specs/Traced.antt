-- The deeds, the steps and the histories of a scene's frames by index.
use Rattle.std.specs.Prelude.{◌≡◌, ℕ, List, fold, take, Some, slice_get}
use Rattle.gfx_model.specs.World.{first_world}
use Rattle.store_laws.specs.ByIndex.{Stores, FrameData, first_stores, frame_by_index}
use Rattle.scene_model.specs.Scene.{Scene}
use Rattle.scene_model.specs.Journal.{Journal}
use Rattle.scene_laws.specs.SceneFrames.{HasColors, scene_frames}
use Rattle.trace_laws.specs.Moments.{Moment, moments}
use Rattle.trace_laws.specs.ByIndex.{IsTraced}
use Rattle.gfx_model.specs.Frames.{Recorded}
use Rattle.scene_model.specs.Fold.{FramePlan, plans}
use Rattle.scene_model.specs.Journal.{Entry}
use Rattle.scene_laws.specs.Gathered.{IsGathered}
use Rattle.trace_laws.specs.Doers.{doers, doers_in}
use Rattle.trace_laws.specs.Text.{lines_in, scene_pixel_lines}

-- the stores in which a frame of a scene begins
abbrev pub stores_before : Scene → Journal → ℕ → Stores
stores_before s j k = fold frame_by_index (first_stores (first_world s.width s.height).back) (take k (scene_frames s j))

-- each frame of a scene by index is traced as the definition's
abbrev pub SceneTracedLaw : Type 0
SceneTracedLaw = (s : Scene) (j : Journal) → HasColors s → (k : ℕ) (f : FrameData) (m : Moment) → slice_get (scene_frames s j) k ≡ Some f → slice_get (moments s j) k ≡ Some m
    → IsTraced (stores_before s j k) m.world f m.content

-- the doers of recordings that are gathered of a frame's encoders are those of the frame, for any order of its items
abbrev pub GatheredDoersLaw : Type 0
GatheredDoersLaw = (p : FramePlan) (rs : List Recorded) (entries : List Entry) → IsGathered p rs → doers_in p.views rs entries ≡ doers p entries

-- a frame's lines by index are the definition's, where its recordings are gathered of its encoders
abbrev pub SceneLinesLaw : Type 0
SceneLinesLaw = (s : Scene) (j : Journal) → HasColors s → (k x y : ℕ) (f : FrameData) (p : FramePlan) (entries : List Entry) (rs : List Recorded)
    → slice_get (scene_frames s j) k ≡ Some f → slice_get (plans s) k ≡ Some p → slice_get j k ≡ Some entries → IsGathered p rs
    → lines_in (stores_before s j k) f (doers_in p.views rs entries) x y ≡ scene_pixel_lines s j k x y
