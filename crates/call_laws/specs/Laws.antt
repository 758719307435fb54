-- The laws of what the calls of the API thread write for the renderer.
use Rattle.std.specs.Prelude.{◌≡◌, ℕ, ◌+◌, List, []}
use Rattle.std.specs.List.{AllByRecursion}
use Rattle.gfx_model.specs.World.{World, Content, Surface, Item, FrameContent, frame_step}
use Rattle.gfx_model.specs.Resources.{ResourceCall, opening, start_frame, deaths_in}
use Rattle.store_laws.specs.ByIndex.{FrameData, first_stores}
use Rattle.store_laws.specs.Says.{Says, left}
use Rattle.store_laws.specs.Run.{empty_world, pictures_by_index, pictures_of}
use Rattle.call_laws.specs.Calls.{Written, after_call, nothing_written, IsWritten, IsAccepted}
use Rattle.call_laws.specs.Context.{data_of, content_by, HasTargets, HasItem, ContextFrames}

-- an accepted call writes just what it does to the world
abbrev pub CallLaw : Type 0
CallLaw = (place : ℕ → ℕ) (first : List (ℕ × Content)) (v : Written) (call : ResourceCall) → IsWritten place first v → IsAccepted place first v call → IsWritten place first (after_call v call)

-- what the calls of a frame wrote, with items and targets of things that are there, says what the definition's frame has
abbrev pub FrameSaysLaw : Type 0
FrameSaysLaw = (place : ℕ → ℕ) (w : World) (gone : List ℕ) (v : Written) (items : List Item) → IsWritten place (left gone w).things v → HasTargets v.resources v.resources.views
    → AllByRecursion (HasItem v.resources) items → Says place w (data_of v items) (content_by gone v items) v.dying

-- what was written at the start of the next frame, nothing, says the world behind this frame without what died in it
abbrev pub NextLaw : Type 0
NextLaw = (place : ℕ → ℕ) (w : World) (gone : List ℕ) (v : Written) (items : List Item) → IsWritten place (left gone w).things v
    → IsWritten place (left (deaths_in v.resources.frame v.resources) (frame_step w (content_by gone v items))).things (nothing_written (start_frame (v.resources.frame + 1) v.resources))

-- a context's frames, rendered by index in order, have the definition's pictures
abbrev pub RunLaw : Type 0
RunLaw = (place : ℕ → ℕ) (back : Surface) (views latency frame serial : ℕ) (fs : List FrameData) (cs : List FrameContent) → ContextFrames place (empty_world back) [] (opening views latency frame serial) fs cs
    → pictures_by_index (first_stores back) fs ≡ pictures_of (empty_world back) cs
