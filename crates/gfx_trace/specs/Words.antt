-- The words after the program's name.
use Rattle.std.specs.Prelude.{ℕ, List, [], ◌∷◌, Option, Some, None, if◌then◌else◌, codes, bytes_eq}
use Rattle.scene_model.specs.JournalText.{number_within}
use Rattle.gfx_trace.specs.Jobs.{Job}
use Rattle.gfx_trace.specs.Jobs as jobs

-- the number that a word is: decimal, without a leading zero, up to 4294967295
abbrev pub number_of : List ℕ → Option ℕ
number_of word = number_within 4294967295 word

-- the history of a pixel, where all three words are numbers
abbrev pub pixel_asked : (frame x y : Option ℕ) → Option Job
pixel_asked (Some frame) (Some x) (Some y) = Some (jobs.pixel_job (record { frame = frame; x = x; y = y }))
pixel_asked _ _ _ = None

-- the same of the frame buffer of a name
abbrev pub target_asked : (frame x y : Option ℕ) → (name : List ℕ) → Option Job
target_asked (Some frame) (Some x) (Some y) name = Some (jobs.target_job (record { frame = frame; x = x; y = y }) name)
target_asked _ _ _ name = None

-- the steps of a frame, where the word is a number
abbrev pub steps_asked : (frame : Option ℕ) → Option Job
steps_asked (Some frame) = Some (jobs.steps_job frame)
steps_asked None = None

-- to which deed of a frame each pixel is due, where the word is a number
abbrev pub blame_asked : (frame : Option ℕ) → Option Job
blame_asked (Some frame) = Some (jobs.blame_job frame)
blame_asked None = None

-- what two words ask for
abbrev pub frame_asked : List ℕ → (frame : Option ℕ) → Option Job
frame_asked word frame = if bytes_eq word (codes "steps") then steps_asked frame else (if bytes_eq word (codes "blame") then blame_asked frame else None)

-- what the words ask for: `pixel F X Y`, `pixel F X Y --target NAME`, `steps F` or `blame F`
abbrev pub job_of : List (List ℕ) → Option Job
job_of (word ∷ frame ∷ x ∷ y ∷ []) = if bytes_eq word (codes "pixel") then pixel_asked (number_of frame) (number_of x) (number_of y) else None
job_of (word ∷ frame ∷ x ∷ y ∷ option ∷ name ∷ []) =
    if bytes_eq word (codes "pixel") then (if bytes_eq option (codes "--target") then target_asked (number_of frame) (number_of x) (number_of y) name else None) else None
job_of (word ∷ frame ∷ []) = frame_asked word (number_of frame)
job_of words = None
