-- What a pixel of a frame buffer goes through in a frame of a scene.
use Rattle.std.specs.Prelude.{◌≡◌, ℕ, true, false, List, map, Option, Some, None, slice_get}
use Rattle.gfx_model.specs.World.{World, FrameContent, surface_of}
use Rattle.pixel_ops.specs.Seen.{pixel_seen}
use Rattle.scene_model.specs.Scene.{Scene}
use Rattle.scene_model.specs.Fold.{FramePlan, plans}
use Rattle.scene_model.specs.Journal.{Entry, Journal, frame_content}
use Rattle.trace_laws.specs.Deeds.{begun}
use Rattle.trace_laws.specs.Doers.{doers}
use Rattle.trace_laws.specs.Moments.{moments}
use Rattle.trace_lines.specs.Seen.{doer_seen}
use Rattle.target_laws.specs.Names.{is_drawn_on}
use Rattle.target_laws.specs.Targets.{has_pixel, target_pixel, target_history}
use Rattle.target_tracing.specs.Seen.{target_made_seen}
use Rattle.target_tracing.specs.declared.made.TargetHistory.{TargetHistory}
use Rattle.target_tracing.specs.declared.tracing.TargetSpot.{TargetSpot}

-- the history of a pixel of a frame buffer in a frame that begins in a world, and whose each deed is; none where the frame buffer has no such pixel
abbrev pub IsHistoryFrom : World → FramePlan → List Entry → TargetSpot → Option TargetHistory → Type 0
IsHistoryFrom w p entries spot None = has_pixel (surface_of (begun w (frame_content p entries)) (Some spot.target)) spot.x spot.y ≡ false
IsHistoryFrom w p entries spot (Some it) =
    (has_pixel (surface_of (begun w (frame_content p entries)) (Some spot.target)) spot.x spot.y ≡ true)
    × (pixel_seen it.before ≡ target_pixel (begun w (frame_content p entries)) spot.target spot.x spot.y)
    × (map target_made_seen it.made.items ≡ target_history w (frame_content p entries) spot.target spot.x spot.y)
    × (map doer_seen it.doers.items ≡ doers p entries)

-- frame k of a scene by a journal has its moment, its plan and its entries; where a view of the frame draws on the frame buffer, the history is from there on
pub record IsSceneHistory (s : Scene) (j : Journal) (k : ℕ) (spot : TargetSpot) (o : Option TargetHistory) : Type 0 where
  pub world : World
  pub plan : FramePlan
  pub entries : List Entry
  pub planned : slice_get (plans s) k ≡ Some plan
  pub ordered : slice_get j k ≡ Some entries
  pub begins : slice_get (moments s j) k ≡ Some (record { world = world; content = frame_content plan entries })
  pub told : is_drawn_on plan.views spot.target ≡ true → IsHistoryFrom world plan entries spot o
