-- The words after the program's name.
use Rattle.std.specs.Prelude.{ℕ, List, [], ◌∷◌, Option, Some, None, if◌then◌else◌, codes, bytes_eq}
use Rattle.shares_running.specs.declared.words.Job.{Job}
use Rattle.shares_running.specs.declared.words.Job.TheVariants as jobs

-- what a word asks for
abbrev pub job_named : List ℕ → Option Job
job_named word =
    if bytes_eq word (codes "pairs") then Some jobs.Pairs else
    (if bytes_eq word (codes "harmless") then Some jobs.Harmless else None)

-- what the words ask for: none for the views, or one word alone
abbrev pub job_of : List (List ℕ) → Option Job
job_of [] = Some jobs.Views
job_of (word ∷ []) = job_named word
job_of words = None
