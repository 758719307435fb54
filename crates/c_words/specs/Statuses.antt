-- The numbers that C is answered.
use Rattle.std.specs.Prelude.{ℕ, Result, Ok, Err}
use Rattle.gfx_words.specs.declared.refusals.Refusal.{Refusal}
use Rattle.gfx_words.specs.Seen.{refusal_number}
use Rattle.c_words.specs.declared.faults.Fault.{Fault}
use Rattle.c_words.specs.declared.faults.Fault.TheVariants as faults

-- the number of a fault
abbrev pub fault_number : Fault → ℕ
fault_number (faults.Refused r) = refusal_number r
fault_number faults.Unknown = 108
fault_number faults.NoObject = 100
fault_number faults.TryAgain = 101
fault_number faults.Ended = 102
fault_number faults.TooSmall = 103
fault_number faults.BadValue = 104
fault_number faults.Taken = 105
fault_number faults.NotThere = 109

-- the status of an answer
abbrev pub status_of : {X : Type 0} → Result X Fault → ℕ
status_of (Ok x) = 0
status_of (Err f) = fault_number f

-- the answer of a call of another crate
abbrev pub told_of : {X : Type 0} → Result X Refusal → Result X Fault
told_of (Ok x) = Ok x
told_of (Err r) = Err (faults.Refused r)
