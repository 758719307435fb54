-- The steps of a frame of a scene.
use Rattle.std.specs.Prelude.{ℕ, List, [], flat_map, Option, Some, None, slice_get}
use Rattle.gfx_model.specs.Frames.{Entry}
use Rattle.scene_model.specs.Output.{picture_text}
use Rattle.scene_model.specs.Scene.{Scene}
use Rattle.scene_model.specs.Fold.{FramePlan, plans}
use Rattle.scene_model.specs.Journal.{Journal}
use Rattle.trace_laws.specs.Deeds.{step_pictures}
use Rattle.trace_laws.specs.Doers.{Doer, doers}
use Rattle.trace_laws.specs.Moments.{Moment, moments}

-- the texts of the pictures of a frame's steps that begins at a moment, one behind the other; none where there is no such frame
abbrev pub steps_at : Option Moment → List ℕ
steps_at (Some m) = flat_map picture_text (step_pictures m.world m.content)
steps_at None = []

-- the same of frame k of a scene by a journal
abbrev pub scene_steps_text : Scene → Journal → (k : ℕ) → List ℕ
scene_steps_text s j k = steps_at (slice_get (moments s j) k)

-- whose each deed of a frame is; nobody's where there is no such frame
abbrev pub doers_at : Option FramePlan → Option (List Entry) → List Doer
doers_at (Some p) (Some entries) = doers p entries
doers_at _ _ = []

-- the same of frame k of a scene by a journal
abbrev pub scene_doers : Scene → Journal → (k : ℕ) → List Doer
scene_doers s j k = doers_at (slice_get (plans s) k) (slice_get j k)
