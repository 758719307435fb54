-- What a reader answers, against what the definition reads.
use Rattle.std.specs.Prelude.{◌≡◌, ℕ, Result, Ok, Err}
use Rattle.scene_model.specs.Field.{Read, bad_byte, ends_early, unknown_word, misplaced_word, wrong_field_count, no_number, out_of_range, no_name, name_is_bound, name_is_not_bound, misspelt, unknown_version}
use Rattle.scene_text.specs.declared.fault.Cause.{Cause}
use Rattle.scene_text.specs.declared.fault.Cause.TheVariants as causes
use Rattle.scene_text.specs.declared.fault.LineFault.{LineFault}
use Rattle.scene_text.specs.declared.fault.LineFault.TheVariants as faults

-- the number of a cause
abbrev pub number_of : Cause → ℕ
number_of causes.BadByte = bad_byte
number_of causes.EndsEarly = ends_early
number_of causes.UnknownWord = unknown_word
number_of causes.MisplacedWord = misplaced_word
number_of causes.WrongFieldCount = wrong_field_count
number_of causes.NoNumber = no_number
number_of causes.OutOfRange = out_of_range
number_of causes.NoName = no_name
number_of causes.NameIsBound = name_is_bound
number_of causes.NameIsNotBound = name_is_not_bound
number_of causes.Misspelt = misspelt
number_of causes.UnknownVersion = unknown_version

-- the answer, seen by a view, is what is read, or the cause is its cause
abbrev pub Gives : {X Y : Type 0} → (X → Y) → Result X Cause → Read Y → Type 0
Gives view (Ok x) read = read ≡ Ok (view x)
Gives view (Err cause) read = read ≡ Err (number_of cause)

-- the cause is the definition's, unless memory ran out
abbrev pub Fails : {Y : Type 0} → LineFault → Read Y → Type 0
Fails faults.OutOfMemory read = Unit {0}
Fails (faults.Bad cause) read = read ≡ Err (number_of cause)

-- the same where a reader takes memory
abbrev pub MayGive : {X Y : Type 0} → (X → Y) → Result X LineFault → Read Y → Type 0
MayGive view (Ok x) read = read ≡ Ok (view x)
MayGive view (Err fault) read = Fails fault read
