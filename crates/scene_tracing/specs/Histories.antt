-- The history of a pixel of a frame of a scene, and its lines.
use Rattle.std.specs.Prelude.{◌≡◌, ℕ, ◌+◌, ◌*◌, List, map, Some, slice_get, slice_index_or}
use Rattle.gfx_model.specs.Raster.{Texels, no_color}
use Rattle.gfx_model.specs.World.{World}
use Rattle.scene_model.specs.Scene.{Scene}
use Rattle.scene_model.specs.Fold.{FramePlan, plans}
use Rattle.scene_model.specs.Journal.{Entry, Journal, frame_content, pictures}
use Rattle.pixel_ops.specs.Seen.{pixel_seen}
use Rattle.trace_laws.specs.Doers.{doers}
use Rattle.trace_laws.specs.History.{after_history, pixel_at, pixel_history}
use Rattle.trace_laws.specs.Moments.{moments}
use Rattle.frame_tracing.specs.Seen.{made_seen}
use Rattle.trace_lines.specs.Seen.{doer_seen}
use Rattle.scene_tracing.specs.declared.history.History.{History}

-- the pixel before frame k of a scene by a journal, what it goes through in it, and whose each deed of the frame is
pub record IsHistory (s : Scene) (j : Journal) (k x y : ℕ) (h : History) : Type 0 where
  pub world : World
  pub plan : FramePlan
  pub entries : List Entry
  pub planned : slice_get (plans s) k ≡ Some plan
  pub ordered : slice_get j k ≡ Some entries
  pub begins : slice_get (moments s j) k ≡ Some (record { world = world; content = frame_content plan entries })
  pub before : pixel_seen h.before ≡ pixel_at world.back x y
  pub made : map made_seen h.made.items ≡ pixel_history world (frame_content plan entries) x y
  pub doers : map doer_seen h.doers.items ≡ doers plan entries

-- the colour with which it ends is that of frame k's picture
abbrev pub EndsInPicture : Scene → Journal → (k x y : ℕ) → History → Type 0
EndsInPicture s j k x y h =
    (t : Texels) → slice_get (pictures s j) k ≡ Some t
    → (after_history (pixel_seen h.before) (map made_seen h.made.items)).color ≡ slice_index_or t.texels (y * s.width + x) no_color
