-- The lines of refusals.
use Rattle.std.specs.Prelude.{◌≡◌, ◌⊎◌, ℕ, List, [], ◌++◌, Option, Some, None, decimal, codes}
use Rattle.gfx_model.specs.Words.{Handle}
use Rattle.scene_model.specs.Output.{scene_line, length_line, journal_refusal_line}
use Rattle.gfx_trace.specs.declared.status.TraceStatus.{TraceStatus}
use Rattle.gfx_trace.specs.declared.status.TraceStatus.TheVariants as status
use Rattle.gfx_trace.specs.Jobs.{Job}
use Rattle.gfx_trace.specs.Jobs as jobs
use Rattle.gfx_trace.specs.declared.words.Place.{Place}
use Rattle.gfx_trace.specs.Asked.{Asked, scene_by}
use Rattle.target_scenes.specs.Numbered.{scene_target_named}
use Rattle.io_whole.specs.Runs.{Putting, IsUntouched, HasTried}

-- the words are refused
abbrev pub usage_line : List ℕ
usage_line = codes "usage: gfx_trace pixel F X Y [--target NAME] | steps F | blame F\n"

-- the scene has no such frame
abbrev pub frame_line : ℕ → List ℕ
frame_line frame = codes "there is no frame " ++ (decimal frame ++ codes "\n")

-- its pictures have no such pixel
abbrev pub pixel_line : ℕ → ℕ → List ℕ
pixel_line x y = codes "there is no pixel " ++ (decimal x ++ (codes " " ++ (decimal y ++ codes "\n")))

-- the front of the line of a name
abbrev pub target_front : ℕ → List ℕ
target_front frame = codes "no view of frame " ++ (decimal frame ++ codes " draws on ")

-- no view of the frame draws on what the name stands for
abbrev pub target_line : ℕ → (name : List ℕ) → List ℕ
target_line frame name = target_front frame ++ (name ++ codes "\n")

-- the frame buffer of the name is not there, or has no such pixel
abbrev pub target_pixel_line : Place → (name : List ℕ) → Option Handle → List ℕ
target_pixel_line p name None = target_line p.frame name
target_pixel_line p name (Some t) = pixel_line p.x p.y

-- the frame buffer that a name stands for in a frame of what is asked for
abbrev pub asked_target : (frame : ℕ) → (name : List ℕ) → Asked → Option Handle
asked_target frame name (scene_by s j) = scene_target_named s frame name
asked_target frame name _ = None

-- the line of the frame that a job names
abbrev pub job_frame_line : Job → List ℕ
job_frame_line (jobs.pixel_job p) = frame_line p.frame
job_frame_line (jobs.target_job p name) = frame_line p.frame
job_frame_line (jobs.steps_job frame) = frame_line frame
job_frame_line (jobs.blame_job frame) = frame_line frame

-- the line of the pixel that a job names, if it names one
abbrev pub job_pixel_line : Job → Asked → List ℕ
job_pixel_line (jobs.pixel_job p) asked = pixel_line p.x p.y
job_pixel_line (jobs.target_job p name) asked = target_pixel_line p name (asked_target p.frame name asked)
job_pixel_line (jobs.steps_job frame) asked = []
job_pixel_line (jobs.blame_job frame) asked = []

-- the line with which a job over what is asked for is refused
abbrev pub refusal_line : Job → Asked → TraceStatus → List ℕ
refusal_line job asked (status.Scene line cause) = scene_line line cause
refusal_line job asked status.TooLong = length_line
refusal_line job asked (status.Journal place) = journal_refusal_line place
refusal_line job asked status.NoFrame = job_frame_line job
refusal_line job asked status.NoPixel = job_pixel_line job asked
refusal_line job asked _ = []

-- the run is refused and its line put into the notes as far as they take it, or there was no memory for the line
abbrev pub MayRefuse : (wanted st : TraceStatus) → (line : List ℕ) → (notes : Putting) → Type 0
MayRefuse wanted st line notes = ((st ≡ wanted) × HasTried line notes) ⊎ ((st ≡ status.OutOfMemory) × IsUntouched notes)
