-- What is known after a run, for each status with which it may end.
use Rattle.std.specs.Prelude.{◌≡◌, ◌⊎◌, ℕ, nat_lt, ◌&&◌, if◌then◌else◌, List, [], length, Option, Some, None, ⊤}
use Rattle.io_whole.specs.Whole.{longest, HasMoreThan}
use Rattle.scene_model.specs.Scene.{Scene}
use Rattle.scene_model.specs.Journal.{Journal}
use Rattle.scene_model.specs.Output.{length_line}
use Rattle.gfx_trace.specs.Asked.{Asked, scene_by, no_scene, no_journal, asked_of}
use Rattle.frame_steps.specs.declared.steps.StepFault.TheVariants as faults
use Rattle.scene_tracing.specs.declared.stepped.StepsEnd.{StepsEnd}
use Rattle.scene_tracing.specs.Blame.{scene_blame_text}
use Rattle.scene_tracing.specs.Steps.{scene_steps_text}
use Rattle.target_laws.specs.Text.{scene_target_lines}
use Rattle.gfx_trace.specs.Lines.{history_text, target_history_text, step_notes}
use Rattle.io_whole.specs.Runs.{Reading, HasFailedToGive, IsUnread, Putting, HasFailedToTake, IsUntouched, HasPut, HasPutFront, HasTried}
use Rattle.gfx_trace.specs.Io.{IsRead}
use Rattle.gfx_trace.specs.Refusals.{usage_line, refusal_line}
use Rattle.gfx_trace.specs.Jobs.{Job}
use Rattle.gfx_trace.specs.Jobs as jobs
use Rattle.gfx_trace.specs.declared.status.TraceStatus.{TraceStatus}
use Rattle.gfx_trace.specs.declared.status.TraceStatus.TheVariants as status

-- ---- the status of the words and the bytes, where nothing fails

-- a pixel of a frame buffer that has lines is there
abbrev pub lines_status : Option (List ℕ) → TraceStatus
lines_status (Some lines) = status.Done
lines_status None = status.NoPixel

-- the frame is there, and then the pixel, where one is asked for
abbrev pub place_status : Scene → Journal → Job → TraceStatus
place_status s j (jobs.pixel_job p) =
    if nat_lt p.frame (length s.frames) then (if nat_lt p.x s.width && nat_lt p.y s.height then status.Done else status.NoPixel) else status.NoFrame
place_status s j (jobs.target_job p name) =
    if nat_lt p.frame (length s.frames) then lines_status (scene_target_lines s j p.frame name p.x p.y) else status.NoFrame
place_status s j (jobs.steps_job frame) = if nat_lt frame (length s.frames) then status.Done else status.NoFrame
place_status s j (jobs.blame_job frame) = if nat_lt frame (length s.frames) then status.Done else status.NoFrame

-- what was asked for is there
abbrev pub asked_status : Job → Asked → TraceStatus
asked_status job (scene_by s j) = place_status s j job
asked_status job (no_scene fault) = status.Scene fault.line fault.cause
asked_status job (no_journal place) = status.Journal place

-- the words, the length, the scene, the journal, the frame, and the pixel
abbrev pub status_of : Option Job → List ℕ → TraceStatus
status_of None bytes = status.Usage
status_of (Some job) bytes = if nat_lt longest (length bytes) then status.TooLong else asked_status job (asked_of bytes)

-- ---- what is put

-- the lines of the pixel in the frame, or of that of the frame buffer, the pictures of the frame's steps, or the picture of the deeds to which its pixels are due
abbrev pub asked_text : Job → List ℕ → Asked → List ℕ
asked_text (jobs.pixel_job p) bytes (scene_by s j) = history_text bytes s j p.frame p.x p.y
asked_text (jobs.target_job p name) bytes (scene_by s j) = target_history_text bytes s j p.frame name p.x p.y
asked_text (jobs.steps_job frame) bytes (scene_by s j) = scene_steps_text s j frame
asked_text (jobs.blame_job frame) bytes (scene_by s j) = scene_blame_text s j frame
asked_text job bytes _ = []

-- the text that a job over an input puts
abbrev pub text_of : Job → List ℕ → List ℕ
text_of job bytes = asked_text job bytes (asked_of bytes)

-- the lines of the frame's steps
abbrev pub asked_notes : Job → List ℕ → Asked → List ℕ
asked_notes (jobs.steps_job frame) bytes (scene_by s j) = step_notes bytes s j frame
asked_notes job bytes _ = []

-- the text that a job over an input puts into the notes
abbrev pub notes_of : Job → List ℕ → List ℕ
notes_of job bytes = asked_notes job bytes (asked_of bytes)

-- a text was put, a front of it, or nothing
abbrev pub IsPut : TraceStatus → List ℕ → Putting → Type 0
IsPut status.Done text sink = HasPut text sink
IsPut status.PictureFault text sink = HasPutFront text sink × HasFailedToTake sink
IsPut status.OutOfMemory text sink = IsUntouched sink
IsPut _ text sink = ⊥

-- a text was put into the notes, a front of it, or nothing
abbrev pub IsNoted : TraceStatus → List ℕ → Putting → Type 0
IsNoted status.Done text notes = HasPut text notes
IsNoted status.NoteFault text notes = HasPutFront text notes × HasFailedToTake notes
IsNoted status.OutOfMemory text notes = IsUntouched notes
IsNoted _ text notes = ⊥

-- how steps ended: their lines were put into the notes where all pictures were put, and else nothing
abbrev pub AreEnded : TraceStatus → StepsEnd → (lines : List ℕ) → (notes : Putting) → Type 0
AreEnded status.Done end lines notes = (end.fault ≡ None) × HasPut lines notes
AreEnded status.NoteFault end lines notes = (end.fault ≡ None) × HasPutFront lines notes × HasFailedToTake notes
AreEnded status.PictureFault end lines notes = (end.fault ≡ Some faults.Fault) × IsUntouched notes
AreEnded status.OutOfMemory end lines notes = IsUntouched notes
AreEnded _ end lines notes = ⊥

-- ---- what stands after each status

-- what is in the notes after a job that was done: the lines of steps, and else nothing
abbrev pub HasNoted : Job → (bytes : List ℕ) → (notes : Putting) → Type 0
HasNoted (jobs.pixel_job p) bytes notes = IsUntouched notes
HasNoted (jobs.target_job p name) bytes notes = IsUntouched notes
HasNoted (jobs.blame_job frame) bytes notes = IsUntouched notes
HasNoted (jobs.steps_job frame) bytes notes = HasPut (notes_of (jobs.steps_job frame) bytes) notes

-- the notes failed, when all pictures of the steps were put; it is an end of steps alone
abbrev pub HasFailedToNote : Job → (bytes : List ℕ) → (sink notes : Putting) → Type 0
HasFailedToNote (jobs.pixel_job p) bytes sink notes = ⊥
HasFailedToNote (jobs.target_job p name) bytes sink notes = ⊥
HasFailedToNote (jobs.blame_job frame) bytes sink notes = ⊥
HasFailedToNote (jobs.steps_job frame) bytes sink notes = HasPut (text_of (jobs.steps_job frame) bytes) sink × HasPutFront (notes_of (jobs.steps_job frame) bytes) notes × HasFailedToTake notes

-- what was put where memory ran out: of steps a front of their pictures, and else nothing
abbrev pub HasStopped : Job → (bytes : List ℕ) → (sink : Putting) → Type 0
HasStopped (jobs.pixel_job p) bytes sink = IsUntouched sink
HasStopped (jobs.target_job p name) bytes sink = IsUntouched sink
HasStopped (jobs.blame_job frame) bytes sink = IsUntouched sink
HasStopped (jobs.steps_job frame) bytes sink = HasPutFront (text_of (jobs.steps_job frame) bytes) sink

-- what stands after a run over bytes
abbrev pub IsAnswered : TraceStatus → Job → (bytes : List ℕ) → (sink notes : Putting) → Type 0
IsAnswered status.Done job bytes sink notes = (asked_status job (asked_of bytes) ≡ status.Done) × HasPut (text_of job bytes) sink × HasNoted job bytes notes
IsAnswered status.PictureFault job bytes sink notes =
    (asked_status job (asked_of bytes) ≡ status.Done) × HasPutFront (text_of job bytes) sink × HasFailedToTake sink × IsUntouched notes
IsAnswered status.NoteFault job bytes sink notes = (asked_status job (asked_of bytes) ≡ status.Done) × HasFailedToNote job bytes sink notes
IsAnswered status.OutOfMemory job bytes sink notes = HasStopped job bytes sink × IsUntouched notes
IsAnswered status.Usage job bytes sink notes = ⊥
IsAnswered status.ReadFault job bytes sink notes = ⊥
IsAnswered status.TooLong job bytes sink notes = ⊥
IsAnswered st job bytes sink notes = (asked_status job (asked_of bytes) ≡ st) × IsUntouched sink × HasTried (refusal_line job (asked_of bytes) st) notes

-- the same where memory ran out, and it is not said how far the source was read
abbrev pub IsStopped : Job → Reading → (sink : Putting) → Type 0
IsStopped (jobs.pixel_job p) source sink = IsUntouched sink
IsStopped (jobs.target_job p name) source sink = IsUntouched sink
IsStopped (jobs.blame_job frame) source sink = IsUntouched sink
IsStopped (jobs.steps_job frame) source sink = IsUntouched sink ⊎ ((bytes : List ℕ) × IsRead bytes source × HasPutFront (text_of (jobs.steps_job frame) bytes) sink)

-- what stands after a run of a job
abbrev pub EndsJob : TraceStatus → Job → Reading → (sink notes : Putting) → Type 0
EndsJob status.ReadFault job source sink notes = HasFailedToGive source × IsUntouched sink × IsUntouched notes
EndsJob status.TooLong job source sink notes = HasMoreThan longest source.before × IsUntouched sink × HasTried length_line notes
EndsJob status.OutOfMemory job source sink notes = IsStopped job source sink × IsUntouched notes
EndsJob st job source sink notes = (bytes : List ℕ) × IsRead bytes source × IsAnswered st job bytes sink notes

-- the end of a run: words that are no job are refused, and nothing is read
abbrev pub Ends : TraceStatus → Option Job → Reading → (sink notes : Putting) → Type 0
Ends st None source sink notes = (st ≡ status.Usage) × IsUnread source × IsUntouched sink × HasTried usage_line notes
Ends st (Some job) source sink notes = EndsJob st job source sink notes

-- ---- runs that meet no fault

-- the source told these bytes as those that were left, and did not fail, if it is read
abbrev pub IsGiven : Option Job → Reading → List ℕ → Type 0
IsGiven None source bytes = ⊤
IsGiven (Some job) source bytes = (source.before ≡ Some bytes) × (HasFailedToGive source → ⊥)

-- nothing failed of what a run puts into: the sink, and of steps the notes too
abbrev pub AreTaken : Option Job → (sink notes : Putting) → Type 0
AreTaken (Some (jobs.steps_job frame)) sink notes = (HasFailedToTake sink → ⊥) × (HasFailedToTake notes → ⊥)
AreTaken o sink notes = HasFailedToTake sink → ⊥

-- the run ends so, or for want of memory
abbrev pub EndsAs : (wanted st : TraceStatus) → Type 0
EndsAs wanted st = (st ≡ wanted) ⊎ (st ≡ status.OutOfMemory)
