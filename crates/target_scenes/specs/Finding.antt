-- How a pixel of a frame buffer is traced in a frame behind those before it.
use Rattle.std.specs.Prelude.{◌≡◌, ◌<◌, List, map, take, length, slice_get, Some, None, IfSome}
use Rattle.store_laws.specs.ByIndex.{Stores}
use Rattle.frame_record.specs.declared.frame.Frame.{Frame}
use Rattle.io_edge.specs.declared.sure.SureSink.{SureSink}
use Rattle.render_stores.specs.Seen.{stores_seen}
use Rattle.render_core.specs.declared.renderer.Renderer.{Renderer}
use Rattle.render_core.specs.Seen.{frame_seen, journal_of, recordings_of}
use Rattle.trace_laws.specs.ByIndex.{begun_in}
use Rattle.trace_laws.specs.Doers.{doers_in}
use Rattle.trace_lines.specs.Seen.{doer_seen}
use Rattle.target_tracing.specs.Tracing.{IsTargetHistory}
use Rattle.target_tracing.specs.declared.tracing.TargetSpot.{TargetSpot}
use Rattle.scene_tracing.specs.Tracing.{stores_behind, IsBefore}
use Rattle.target_scenes.specs.declared.asked.AskedTarget.{AskedTarget}
use Rattle.target_scenes.specs.declared.found.Found.{Found}
use Rattle.target_scenes.specs.declared.targeter.Targeter.{Targeter}

-- the history of a pixel of a frame buffer in a frame that begins in stores, and whose its deeds are
abbrev pub IsFoundIn : TargetSpot → Stores → Frame → Found → Type 0
IsFoundIn spot h frame b =
    IsTargetHistory spot.target spot.x spot.y (begun_in h (frame_seen frame)) (frame_seen frame) b.history
    × IfSome b.history (λ it. map doer_seen it.doers.items ≡ doers_in frame.views (recordings_of frame) (journal_of frame))

-- the frame asked for is among these, and its history is this
abbrev pub HasFound : AskedTarget → List Frame → Found → Type 0
HasFound a frames b =
    (a.frame < length frames)
    × ((frame : Frame) → slice_get frames a.frame ≡ Some frame → IsFoundIn a.spot (stores_behind a.width a.height (take a.frame frames)) frame b)

-- a targeter that was given frames
pub record Finds (t : Targeter) (frames : List Frame) : Type 0 where
  pub before : t.found ≡ None → IfSome t.renderer (λ r. IsBefore t.asked.width t.asked.height t.asked.frame t.left (stores_seen r.canvas.stores) frames)
  pub found : (b : Found) → t.found ≡ Some b → HasFound t.asked frames b

-- the same of one whose renderer was taken out of it
pub record FindsWith (t : Targeter) (r : Renderer SureSink) (frames : List Frame) : Type 0 where
  pub before : t.found ≡ None → IsBefore t.asked.width t.asked.height t.asked.frame t.left (stores_seen r.canvas.stores) frames
  pub found : (b : Found) → t.found ≡ Some b → HasFound t.asked frames b
