-- The laws of a scene's frames.
use Rattle.std.specs.Prelude.{◌≡◌, List}
use Rattle.gfx_model.specs.World.{first_world}
use Rattle.store_laws.specs.ByIndex.{first_stores}
use Rattle.store_laws.specs.Run.{pictures_by_index}
use Rattle.gfx_model.specs.Frames.{Recorded}
use Rattle.scene_model.specs.Scene.{Scene}
use Rattle.scene_model.specs.Fold.{FramePlan}
use Rattle.scene_model.specs.Journal.{Journal, pictures}
use Rattle.scene_laws.specs.SceneFrames.{HasColors, scene_frames}
use Rattle.scene_laws.specs.Gathered.{IsGathered, HasFrame}

-- the frames of a scene by index have its pictures, by whatever journal
abbrev pub ScenePicturesLaw : Type 0
ScenePicturesLaw = (s : Scene) (j : Journal) → HasColors s → pictures_by_index (first_stores (first_world s.width s.height).back) (scene_frames s j) ≡ pictures s j

-- what is gathered of a frame's encoders has a lawful journal, and the frame's items in both orders
abbrev pub GatheredLaw : Type 0
GatheredLaw = (plan : FramePlan) (rs : List Recorded) → IsGathered plan rs → HasFrame plan rs
