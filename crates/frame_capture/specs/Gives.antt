-- What functions answer, against what is read.
use Rattle.std.specs.Prelude.{◌≡◌, ◌++◌, ℕ, List, Result, Ok, Err, ⊤}
use Rattle.frame_capture.specs.declared.fault.FieldFault.{FieldFault}
use Rattle.frame_capture.specs.declared.fault.FieldFault.TheVariants as fields
use Rattle.frame_capture.specs.declared.fault.CaptureFault.{CaptureFault}
use Rattle.frame_capture.specs.declared.fault.CaptureFault.TheVariants as wholes
use Rattle.frame_capture.specs.Fault.{◌>>=◌, Fault}

-- the cause, unless memory ran out
abbrev pub Fails : {Y : Type 0} → FieldFault → Result Y ℕ → Type 0
Fails fields.OutOfMemory read = ⊤
Fails (fields.Bad cause) read = read ≡ Err cause

-- what is read, seen so, or the cause, unless memory ran out
abbrev pub Gives : {X Y : Type 0} → (X → Y) → Result X FieldFault → Result Y ℕ → Type 0
Gives view (Ok x) read = read ≡ Ok (view x)
Gives view (Err e) read = Fails e read

-- a field's fault behind so many whole frames
abbrev pub behind : ℕ → FieldFault → CaptureFault
behind k fields.OutOfMemory = wholes.OutOfMemory
behind k (fields.Bad cause) = wholes.At k cause

-- the place and the cause, unless memory ran out
abbrev pub FailsAt : {Y : Type 0} → CaptureFault → Result Y Fault → Type 0
FailsAt wholes.OutOfMemory read = ⊤
FailsAt (wholes.At frame cause) read = read ≡ Err (record { frame = frame; cause = cause })

-- what is shown, seen so, or the place and the cause, unless memory ran out
abbrev pub Shows : {X Y : Type 0} → (X → Y) → Result X CaptureFault → Result Y Fault → Type 0
Shows view (Ok x) read = read ≡ Ok (view x)
Shows view (Err e) read = FailsAt e read

-- texts before those that are read
abbrev pub after_texts : {E : Type 0} → List ℕ → Result (List ℕ) E → Result (List ℕ) E
after_texts front read = read >>= λ x. Ok (front ++ x)
