-- How the pictures of a frame's steps are put behind those before it.
use Rattle.std.specs.Prelude.{◌≡◌, ◌⊎◌, ℕ, ◌<◌, ◌≤◌, List, map, take, length, slice_get, Option, Some, None, IfSome}
use Rattle.io_edge.specs.Edge.{with_back, Rose}
use Rattle.io_whole.specs.Whole.{HasFront}
use Rattle.store_laws.specs.ByIndex.{Stores}
use Rattle.frame_record.specs.declared.frame.Frame.{Frame}
use Rattle.io_edge.specs.declared.sure.SureSink.{SureSink}
use Rattle.render_stores.specs.Seen.{stores_seen}
use Rattle.render_core.specs.declared.renderer.Renderer.{Renderer}
use Rattle.render_core.specs.Seen.{frame_seen, journal_of, recordings_of}
use Rattle.trace_laws.specs.Doers.{doers_in}
use Rattle.trace_lines.specs.Seen.{doer_seen}
use Rattle.frame_steps.specs.Steps.{steps_text}
use Rattle.frame_steps.specs.declared.steps.StepFault.TheVariants as faults
use Rattle.scene_tracing.specs.Tracing.{stores_behind, IsBefore}
use Rattle.scene_tracing.specs.declared.asked.AskedFrame.{AskedFrame}
use Rattle.scene_tracing.specs.declared.stepped.StepsEnd.{StepsEnd}
use Rattle.scene_tracing.specs.declared.stepper.Stepper.{Stepper}

-- what a sink tells
pub record Told : Type 0 where
  pub held : Option (List ℕ)
  pub faults : ℕ
  pub sure : Option ℕ

-- the same of a sink by what tells it
abbrev pub told_by : {P : Type 0} → (P → Option (List ℕ)) → (P → ℕ) → (P → Option ℕ) → P → Told
told_by held faults sure p = record { held = held p; faults = faults p; sure = sure p }

-- a text was put, or a front of it where there was a fault
pub record HasPutText (text : List ℕ) (old : Told) (end : StepsEnd) (new : Told) : Type 0 where
  pub whole : end.fault ≡ None → new.held ≡ with_back old.held text
  pub front : HasFront old.held text new.held
  pub fault : end.fault ≡ Some faults.Fault → Rose old.faults new.faults
  pub sure : new.sure ≡ old.sure
  pub no_fewer : old.faults ≤ new.faults

-- the pictures of the steps of a frame that begins in stores were put, and its deeds have these doers
pub record IsSteppedIn (h : Stores) (frame : Frame) (old : Told) (end : StepsEnd) (new : Told) : Type 0 where
  pub put : HasPutText (steps_text h (frame_seen frame)) old end new
  pub doers : end.fault ≡ None → map doer_seen end.doers.items ≡ doers_in frame.views (recordings_of frame) (journal_of frame)

-- the frame asked for is among these, and the pictures of its steps were put
abbrev pub HasStepped : AskedFrame → List Frame → Told → StepsEnd → Told → Type 0
HasStepped a frames old end new =
    (a.frame < length frames)
    × ((frame : Frame) → slice_get frames a.frame ≡ Some frame → IsSteppedIn (stores_behind a.width a.height (take a.frame frames)) frame old end new)

-- what a stepper that was given frames has put into a sink that told this before
pub record Steps {P : Type 0} (told : P → Told) (t : Stepper P) (old : Told) (frames : List Frame) : Type 0 where
  pub untouched : t.end ≡ None → told t.sink ≡ old
  pub before : t.end ≡ None → IfSome t.renderer (λ r. IsBefore t.asked.width t.asked.height t.asked.frame t.left (stores_seen r.canvas.stores) frames)
  pub stepped : (end : StepsEnd) → t.end ≡ Some end → HasStepped t.asked frames old end (told t.sink)

-- the same of one whose renderer was taken out of it
pub record StepsWith {P : Type 0} (told : P → Told) (t : Stepper P) (r : Renderer SureSink) (old : Told) (frames : List Frame) : Type 0 where
  pub untouched : t.end ≡ None → told t.sink ≡ old
  pub before : t.end ≡ None → IsBefore t.asked.width t.asked.height t.asked.frame t.left (stores_seen r.canvas.stores) frames
  pub stepped : (end : StepsEnd) → t.end ≡ Some end → HasStepped t.asked frames old end (told t.sink)

-- the pictures were put, or the frame asked for was not given for want of memory, and nothing was put
abbrev pub IsEnded : AskedFrame → List Frame → Told → StepsEnd → Told → Type 0
IsEnded a frames old end new = HasStepped a frames old end new ⊎ ((end.fault ≡ Some faults.OutOfMemory) × (new ≡ old))
