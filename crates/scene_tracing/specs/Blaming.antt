-- How the pixels of a frame are blamed behind those before it.
use Rattle.std.specs.Prelude.{◌≡◌, ◌<◌, List, take, length, slice_get, Some, None, IfSome}
use Rattle.store_laws.specs.ByIndex.{Stores}
use Rattle.frame_record.specs.declared.frame.Frame.{Frame}
use Rattle.io_edge.specs.declared.sure.SureSink.{SureSink}
use Rattle.render_stores.specs.Seen.{stores_seen}
use Rattle.render_core.specs.declared.renderer.Renderer.{Renderer}
use Rattle.render_core.specs.Seen.{frame_seen}
use Rattle.frame_blame.specs.Blame.{AreNumbers, blame_in}
use Rattle.scene_tracing.specs.Tracing.{stores_behind, IsBefore}
use Rattle.scene_tracing.specs.declared.asked.AskedFrame.{AskedFrame}
use Rattle.scene_tracing.specs.declared.blamed.Blamed.{Blamed}
use Rattle.scene_tracing.specs.declared.blamer.Blamer.{Blamer}

-- the numbers of a frame that begins in stores
abbrev pub IsBlamedIn : Stores → Frame → Blamed → Type 0
IsBlamedIn h frame b = (b.width ≡ h.back.color.width) × (b.height ≡ h.back.color.height) × AreNumbers h.back.color.width h.back.color.height (blame_in h (frame_seen frame)) b.numbers.items

-- the frame asked for is among these, and its numbers are these
abbrev pub HasBlamed : AskedFrame → List Frame → Blamed → Type 0
HasBlamed a frames b =
    (a.frame < length frames)
    × ((frame : Frame) → slice_get frames a.frame ≡ Some frame → IsBlamedIn (stores_behind a.width a.height (take a.frame frames)) frame b)

-- a blamer that was given frames
pub record Blames (t : Blamer) (frames : List Frame) : Type 0 where
  pub before : t.blamed ≡ None → IfSome t.renderer (λ r. IsBefore t.asked.width t.asked.height t.asked.frame t.left (stores_seen r.canvas.stores) frames)
  pub blamed : (b : Blamed) → t.blamed ≡ Some b → HasBlamed t.asked frames b

-- the same of one whose renderer was taken out of it
pub record BlamesWith (t : Blamer) (r : Renderer SureSink) (frames : List Frame) : Type 0 where
  pub before : t.blamed ≡ None → IsBefore t.asked.width t.asked.height t.asked.frame t.left (stores_seen r.canvas.stores) frames
  pub blamed : (b : Blamed) → t.blamed ≡ Some b → HasBlamed t.asked frames b
