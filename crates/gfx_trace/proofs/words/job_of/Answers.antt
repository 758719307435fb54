use Rattle.std.proofs.Common.{rules, map, string_bytes}
use Rattle.std.proofs.lemmas.List.{length-map}
use Rattle.gfx_trace.proofs.NoJob.{no_job}
use Rattle.gfx_trace.proofs.words.job_of.Goals.{in_default-via-then-words-lt2, in_default-via-else-words-lt2+else-words-lt3+then-words-lt4, in_default-via-else-words-lt2+else-words-lt3+else-words-lt4+else-words-lt5+then-words-lt6, in_default-via-else-words-lt2+else-words-lt3+else-words-lt4+else-words-lt5+else-words-lt6+else-words-lt7}
use Rattle.gfx_trace.proofs.words.job_of.Goals as goal

-- each other number of words
pub returns-in_default : goal.returns-in_default
returns-in_default c =
    let words = map string_bytes c.args.words.now in
    let same = length-map c.args.words.now string_bytes in
    elim c.in_default.branch [
      | in_default-via-then-words-lt2 w ↦ search (rules, no_job)
      | in_default-via-else-words-lt2+else-words-lt3+then-words-lt4 w ↦ search (rules, no_job)
      | in_default-via-else-words-lt2+else-words-lt3+else-words-lt4+else-words-lt5+then-words-lt6 w ↦ search (rules, no_job)
      | in_default-via-else-words-lt2+else-words-lt3+else-words-lt4+else-words-lt5+else-words-lt6+else-words-lt7 w ↦ search (rules, no_job)
    ]
