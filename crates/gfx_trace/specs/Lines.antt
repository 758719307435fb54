-- The lines of a pixel's history in a scene's text and those of a frame's steps, and what they tell.
use Rattle.std.specs.Prelude.{◌≡◌, ℕ, ◌+◌, ◌*◌, true, List, [], Some, unwrap_or, length, flat_map, slice_get, slice_index_or}
use Rattle.gfx_model.specs.Raster.{Texels, no_color}
use Rattle.gfx_model.specs.Words.{Handle}
use Rattle.gfx_model.specs.World.{content_in, frame_step, surface_of, texels_of}
use Rattle.scene_model.specs.Scene.{Scene}
use Rattle.scene_model.specs.Fold.{FramePlan, plans}
use Rattle.scene_model.specs.Journal.{Entry, Journal, pictures}
use Rattle.scene_model.specs.Output.{picture_text}
use Rattle.target_laws.specs.Laws.{IsTarget}
use Rattle.target_laws.specs.Names.{target_named}
use Rattle.target_laws.specs.Targets.{after_target_history, has_pixel, target_history, target_pixel}
use Rattle.target_scenes.specs.Numbered.{numbered_target_lines, scene_numbered_target_lines}
use Rattle.trace_laws.specs.Deeds.{begun, deeds, step_pictures}
use Rattle.trace_laws.specs.Doers.{doers}
use Rattle.trace_laws.specs.History.{after_history, pixel_at, pixel_history}
use Rattle.trace_laws.specs.Laws.{AreSteps}
use Rattle.trace_laws.specs.Moments.{Moment, moments}
use Rattle.trace_lines.specs.Numbered.{numbered_lines, scene_numbered_lines}
use Rattle.trace_lines.specs.Steps.{step_lines}
use Rattle.item_lines.specs.Items.{item_lines}
use Rattle.frame_blame.specs.Blame.{numbers_text, pixel_blame}
use Rattle.scene_tracing.specs.Blame.{by_rows, scene_blame_text}
use Rattle.scene_tracing.specs.Steps.{scene_doers, scene_steps_text}

-- the lines of a pixel in a frame of a scene by a journal, each item with the number of the line of the scene's text that records it
abbrev pub history_text : (bytes : List ℕ) → Scene → Journal → (frame x y : ℕ) → List ℕ
history_text bytes s j frame x y = scene_numbered_lines (item_lines bytes s frame) s j frame x y

-- the frame has its moment, its plan, its entries and its picture; the lines are those of what the pixel goes through from the moment
-- on, and the colour with which it ends is the picture's
pub record IsTold (bytes : List ℕ) (s : Scene) (j : Journal) (frame x y : ℕ) : Type 0 where
  pub moment : Moment
  pub plan : FramePlan
  pub entries : List Entry
  pub picture : Texels
  pub begins : slice_get (moments s j) frame ≡ Some moment
  pub planned : slice_get (plans s) frame ≡ Some plan
  pub ordered : slice_get j frame ≡ Some entries
  pub shows : slice_get (pictures s j) frame ≡ Some picture
  pub lines :
      history_text bytes s j frame x y
      ≡ numbered_lines (item_lines bytes s frame) (doers plan entries) (pixel_at moment.world.back x y) (pixel_history moment.world moment.content x y)
  pub color :
      (after_history (pixel_at moment.world.back x y) (pixel_history moment.world moment.content x y)).color
      ≡ slice_index_or picture.texels (y * s.width + x) no_color

-- the lines of a pixel of the frame buffer of a name, each item with the number of the line of the scene's text that records it; none where there is no such pixel
abbrev pub target_history_text : (bytes : List ℕ) → Scene → Journal → (frame : ℕ) → (name : List ℕ) → (x y : ℕ) → List ℕ
target_history_text bytes s j frame name x y = unwrap_or (scene_numbered_target_lines (item_lines bytes s frame) s j frame name x y) []

-- the frame has its moment, its plan and its entries, and the name stands for a frame buffer in it on which a view draws; the lines are those of
-- what the pixel goes through from the frame's creates and updates on; the pixel after it is that after the frame, and the colour with
-- which it ends is the texel of the frame buffer's colour texture then, if that is there
pub record IsToldOf (bytes : List ℕ) (s : Scene) (j : Journal) (frame : ℕ) (name : List ℕ) (x y : ℕ) : Type 0 where
  pub moment : Moment
  pub plan : FramePlan
  pub entries : List Entry
  pub target : Handle
  pub begins : slice_get (moments s j) frame ≡ Some moment
  pub planned : slice_get (plans s) frame ≡ Some plan
  pub ordered : slice_get j frame ≡ Some entries
  pub named : target_named s frame name moment.content.views ≡ Some target
  pub has : has_pixel (surface_of (begun moment.world moment.content) (Some target)) x y ≡ true
  pub lines :
      target_history_text bytes s j frame name x y
      ≡ numbered_target_lines (item_lines bytes s frame) (doers plan entries) (target_pixel (begun moment.world moment.content) target x y) (target_history moment.world moment.content target x y)
  pub there : IsTarget (begun moment.world moment.content) target
  pub last :
      after_target_history (target_pixel (begun moment.world moment.content) target x y) (target_history moment.world moment.content target x y)
      ≡ target_pixel (frame_step moment.world moment.content) target x y
  pub color : (texels : Texels) → texels_of (content_in (frame_step moment.world moment.content).things there.color) ≡ Some texels
      → (after_target_history (target_pixel (begun moment.world moment.content) target x y) (target_history moment.world moment.content target x y)).color
      ≡ slice_index_or texels.texels (y * texels.width + x) no_color

-- the lines of the steps of a frame of a scene by a journal, each item with the number of the line of the scene's text that records it
abbrev pub step_notes : (bytes : List ℕ) → Scene → Journal → (frame : ℕ) → List ℕ
step_notes bytes s j frame = step_lines (item_lines bytes s frame) 1 (scene_doers s j frame)

-- the frame has its moment, its plan, its entries and its picture; the pictures are those before its first deed and after each, from the
-- moment on, and the last of them is the frame's; the lines are of its deeds, one after another
pub record AreSeen (bytes : List ℕ) (s : Scene) (j : Journal) (frame : ℕ) : Type 0 where
  pub moment : Moment
  pub plan : FramePlan
  pub entries : List Entry
  pub picture : Texels
  pub begins : slice_get (moments s j) frame ≡ Some moment
  pub planned : slice_get (plans s) frame ≡ Some plan
  pub ordered : slice_get j frame ≡ Some entries
  pub shows : slice_get (pictures s j) frame ≡ Some picture
  pub pictures : scene_steps_text s j frame ≡ flat_map picture_text (step_pictures moment.world moment.content)
  pub steps : AreSteps moment.world moment.content
  pub last : slice_get (step_pictures moment.world moment.content) (length (deeds moment.content)) ≡ Some picture
  pub lines : step_notes bytes s j frame ≡ step_lines (item_lines bytes s frame) 1 (doers plan entries)

-- the frame has its moment, and the numbers are those of the deeds from it on: of each pixel of the back buffer the last deed of its history that
-- gives it a colour
pub record IsBlamed (s : Scene) (j : Journal) (frame : ℕ) : Type 0 where
  pub moment : Moment
  pub begins : slice_get (moments s j) frame ≡ Some moment
  pub numbers :
      scene_blame_text s j frame
      ≡ numbers_text moment.world.back.color.width moment.world.back.color.height (by_rows moment.world.back.color.width moment.world.back.color.height (pixel_blame moment.world moment.content))
