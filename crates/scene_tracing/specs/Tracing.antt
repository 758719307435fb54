-- How a frame is traced behind those before it.
use Rattle.std.specs.Prelude.{◌≡◌, ℕ, ◌+◌, ◌<◌, true, List, map, fold, take, length, slice_get, Option, Some, None}
use Rattle.gfx_model.specs.World.{first_world}
use Rattle.store_laws.specs.ByIndex.{Stores, first_stores, frame_by_index}
use Rattle.frame_record.specs.declared.frame.Frame.{Frame}
use Rattle.pixel_ops.specs.Seen.{pixel_seen}
use Rattle.render_stores.specs.Seen.{stores_seen}
use Rattle.render_core.specs.Seen.{frame_seen, journal_of, recordings_of}
use Rattle.trace_laws.specs.History.{pixel_at}
use Rattle.trace_laws.specs.ByIndex.{begun_in, deeds_in, history_in}
use Rattle.trace_laws.specs.Doers.{doers_in}
use Rattle.frame_tracing.specs.Seen.{made_seen}
use Rattle.trace_lines.specs.Seen.{doer_seen}
use Rattle.scene_tracing.specs.declared.asked.Asked.{Asked}
use Rattle.scene_tracing.specs.declared.history.History.{History}
use Rattle.scene_tracing.specs.declared.tracer.Tracer.{Tracer}

-- what frames leave that are rendered one after another on empty stores with a back buffer of these sides
abbrev pub stores_behind : (width height : ℕ) → List Frame → Stores
stores_behind width height frames = fold frame_by_index (first_stores (first_world width height).back) (map frame_seen frames)

-- the history of a pixel of a frame that begins in stores, and whose its deeds are
abbrev pub IsTracedIn : Stores → (x y : ℕ) → Frame → History → Type 0
IsTracedIn h x y frame t =
    (pixel_seen t.before ≡ pixel_at h.back x y)
    × (map made_seen t.made.items ≡ history_in x y 0 (begun_in h (frame_seen frame)) (deeds_in (frame_seen frame)))
    × (map doer_seen t.doers.items ≡ doers_in frame.views (recordings_of frame) (journal_of frame))

-- the frame asked for is among these, and its history is this
abbrev pub HasTraced : Asked → List Frame → History → Type 0
HasTraced a frames t =
    (a.spot.frame < length frames)
    × ((frame : Frame) → slice_get frames a.spot.frame ≡ Some frame → IsTracedIn (stores_behind a.width a.height (take a.spot.frame frames)) a.spot.x a.spot.y frame t)

-- the frame asked for comes after so many more, and these are rendered
abbrev pub IsBefore : (width height frame left : ℕ) → Stores → List Frame → Type 0
IsBefore width height frame left h frames = (length frames + left ≡ frame) × (h ≡ stores_behind width height frames)

-- the frame asked for is traced, or it was not given
abbrev pub Reaches : Asked → (left : ℕ) → Stores → Option History → List Frame → Type 0
Reaches a left h o frames = (o ≡ None → IsBefore a.width a.height a.spot.frame left h frames) × ((t : History) → o ≡ Some t → HasTraced a frames t)

-- a tracer that was given these frames, where nothing was wanting
abbrev pub Traces : Tracer → List Frame → Type 0
Traces t frames = t.is_whole ≡ true → Reaches t.asked t.left (stores_seen t.renderer.canvas.stores) t.history frames
