-- The laws of the history of a frame buffer's pixel.
use Rattle.std.specs.Prelude.{◌≡◌, ◌≢◌, ℕ, ◌+◌, ◌*◌, true, List, Option, Some, slice_get, slice_index_or}
use Rattle.gfx_model.specs.Words.{Handle}
use Rattle.gfx_model.specs.Raster.{Texels, no_color}
use Rattle.gfx_model.specs.World.{World, frame_buffer_content, content_in, content_of, texels_of, surface_of, FrameContent, frame_step}
use Rattle.trace_laws.specs.Deeds.{begun}
use Rattle.store_laws.specs.ByIndex.{Stores, FrameData}
use Rattle.store_laws.specs.Says.{StandsFor, Says, left, there_in, TargetNames}
use Rattle.scene_model.specs.Scene.{Scene}
use Rattle.scene_model.specs.Journal.{Journal}
use Rattle.scene_laws.specs.SceneFrames.{HasColors, scene_frames}
use Rattle.trace_laws.specs.Moments.{Moment, moments}
use Rattle.trace_laws.specs.ByIndex.{begun_in, deeds_in}
use Rattle.scene_traces.specs.Traced.{stores_before}
use Rattle.target_laws.specs.Names.{is_drawn_on}
use Rattle.target_laws.specs.Targets.{target_pixel, target_history, after_target_history}
use Rattle.target_laws.specs.ByIndex.{surface_at, target_history_in}

-- a frame buffer is there, and its depth texture, if it has one, is not its colour texture
pub record IsTarget (w : World) (t : Handle) : Type 0 where
  pub color : ℕ
  pub depth : Option ℕ
  pub content : content_of w t ≡ Some (frame_buffer_content color depth)
  pub apart : depth ≢ Some color

-- a pixel of a frame buffer after its history is the pixel after the frame
abbrev pub TargetHistoryLaw : Type 0
TargetHistoryLaw = (w : World) (f : FrameContent) (t : Handle) (x y : ℕ) → IsTarget (begun w f) t
    → after_target_history (target_pixel (begun w f) t x y) (target_history w f t x y) ≡ target_pixel (frame_step w f) t x y

-- what a frame leaves in a frame buffer's colour texture, if it is there, at a pixel is the colour with which its history ends
abbrev pub TargetLastLaw : Type 0
TargetLastLaw = (w : World) (f : FrameContent) (t : Handle) (x y : ℕ) (it : IsTarget (begun w f) t) (texels : Texels) → texels_of (content_in (frame_step w f).things it.color) ≡ Some texels
    → (after_target_history (target_pixel (begun w f) t x y) (target_history w f t x y)).color ≡ slice_index_or texels.texels (y * texels.width + x) no_color

-- ---- by index

-- a frame buffer is there when the first deed is done, its surface by index is the world's, and its pixels' histories are the definition's
pub record IsTargetTraced (h : Stores) (w : World) (f : FrameData) (content : FrameContent) (t : Handle) : Type 0 where
  pub there : IsTarget (begun w content) t
  pub surface : surface_at (begun_in h f) t ≡ surface_of (begun w content) (Some t)
  pub history : (x y : ℕ) → target_history_in t x y 0 (begun_in h f) (deeds_in f) ≡ target_history w content t x y

-- where stores stand for a world without what died in the frame before, and the frame by index says what the definition's frame has
abbrev pub TargetIndexedLaw : Type 0
TargetIndexedLaw = (place : ℕ → ℕ) (h : Stores) (w : World) (f : FrameData) (content : FrameContent) (gone : List ℕ) (t : Handle) → StandsFor place h (left content.gone w) → Says place w f content gone → TargetNames place (there_in content w) (Some t)
    → IsTargetTraced h w f content t

-- ---- scenes

-- each frame buffer on which a view of a frame of a scene draws has its histories by index, and they end in the texels of its colour texture
abbrev pub SceneTargetLaw : Type 0
SceneTargetLaw = (s : Scene) (j : Journal) → HasColors s → (k : ℕ) (f : FrameData) (m : Moment) (t : Handle) → slice_get (scene_frames s j) k ≡ Some f → slice_get (moments s j) k ≡ Some m → is_drawn_on m.content.views t ≡ true
    → IsTargetTraced (stores_before s j k) m.world f m.content t
