-- A context one of whose frames is begun.
use Rattle.std.specs.Prelude.{◌≡◌, ℕ, ◌+◌, false, List, Option, Some, ⊤}
use Rattle.gfx_model.specs.Words.{Handle}
use Rattle.atomic_table.specs.Seated.{TableId}
use Rattle.context_core.specs.Ended.{IsReady}
use Rattle.context_core.specs.Gathered.{dropped_in}
use Rattle.context_core.specs.States.{CoreView, frames_end}
use Rattle.context_core.specs.declared.ending.Prepared.{Prepared}
use Rattle.frame_record.specs.declared.frame.Frame.{Frame}
use Rattle.render_core.specs.Rendered.{Rendering}
use Rattle.c_calls.specs.declared.open_frames.Place.{Place}
use Rattle.c_calls.specs.declared.open_frames.Place.TheVariants.{Between, Within}
use Rattle.c_calls.specs.Calls.{Gathers, is_over}
use Rattle.c_calls.specs.Frames.{IsMade, came_back, emptied}
use Rattle.c_calls.specs.Rendered.{rendering_of}
use Rattle.c_calls.specs.Views.{ContextView, IsOn}

-- the context as it was when its frame was begun, and where the frame stands
pub record OpenView : Type 0 where
  pub from : ContextView
  pub place : Place

-- what has come of a context is gathered, and the end of its frame is prepared
pub record IsReadied (p : Prepared) (dropped : ℕ) (from now : ContextView) : Type 0 where
  pub mid : CoreView
  pub gathers : Gathers from.core mid
  pub dropped_is : dropped ≡ dropped_in mid.state.gathered
  pub is_ready : IsReady p mid now.core
  pub same : now ≡ record from { core = now.core }

-- the frame that is begun
abbrev pub frame_in : Place → Frame
frame_in (Between b) = b.frame
frame_in (Within l) = l.frame

-- the renderer that it was begun on
abbrev pub opening_in : Place → Rendering
opening_in (Between b) = rendering_of b.opening
opening_in (Within l) = rendering_of l.opening

-- no pass is out
abbrev pub IsBetween : Place → Type 0
IsBetween (Between b) = ⊤
IsBetween (Within l) = ⊥

-- a pass is out
abbrev pub IsWithin : Place → Type 0
IsWithin (Between b) = ⊥
IsWithin (Within l) = ⊤

-- a frame was made of what a context had, and is the one that is out; it is drawn on the context's renderer, whose sink was emptied
pub record IsOpenOn (table : TableId) (core : CoreView) (rows : List (Option Handle)) (dropped most : ℕ) (from : ContextView) (f : Frame) (opening : Rendering) : Type 0 where
  pub runs : is_over from ≡ false
  pub made : IsMade f dropped from (record from { core = came_back core })
  pub on : IsOn table (came_back core)
  pub out : core.state.out ≡ 1
  pub oldest : f.number + core.state.out ≡ frames_end core.state
  pub rows_are : rows ≡ from.rows
  pub most_is : most ≡ from.most
  pub sure : opening.sure ≡ Some most
  pub opening_is : opening ≡ emptied from.renderer
