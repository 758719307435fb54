-- What the words ask for.
use Rattle.std.specs.Prelude.{ℕ, List}
use Rattle.gfx_trace.specs.declared.words.Job as code
use Rattle.gfx_trace.specs.declared.words.Job.TheVariants as variants
use Rattle.gfx_trace.specs.declared.words.Place.{Place}

-- the history of a pixel in a frame, that of a pixel of the frame buffer of a name, the pictures of a frame's steps, or to which deed of a frame each pixel is due
pub data Job : Type 0 where
  pixel_job : Place → Job
  target_job : Place → (name : List ℕ) → Job
  steps_job : (frame : ℕ) → Job
  blame_job : (frame : ℕ) → Job

-- the same of the code
abbrev pub job_seen : code.Job → Job
job_seen (variants.Pixel p) = pixel_job p
job_seen (variants.Target named) = target_job named.place named.name.now
job_seen (variants.Steps frame) = steps_job frame
job_seen (variants.Blame frame) = blame_job frame
