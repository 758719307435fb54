-- What reading a whole text answers, against the definition.
use Rattle.std.specs.Prelude.{◌≡◌, ℕ, Result, Ok, Err}
use Rattle.scene_model.specs.Scene as model
use Rattle.scene_model.specs.Grammar.{Fault}
use Rattle.scene_text.specs.declared.fault.LineFault.{LineFault}
use Rattle.scene_text.specs.declared.fault.LineFault.TheVariants as faults
use Rattle.scene_text.specs.declared.fault.SceneFault.{SceneFault}
use Rattle.scene_text.specs.declared.fault.SceneFault.TheVariants as wholes
use Rattle.scene_text.specs.declared.scene.Scene.{Scene}
use Rattle.scene_text.specs.Gives.{number_of}
use Rattle.scene_text.specs.Seen.{scene_seen}

-- the fault of a line, with the line's number
abbrev pub at : LineFault → ℕ → SceneFault
at faults.OutOfMemory line = wholes.OutOfMemory
at (faults.Bad cause) line = wholes.At line (number_of cause)

-- the reading fails at that line and for that cause; want of memory says nothing
abbrev pub FailsAt : {A : Type 0} → SceneFault → Result A Fault → Type 0
FailsAt wholes.OutOfMemory read = Unit {0}
FailsAt (wholes.At line cause) read = read ≡ Err (record { line = line; cause = cause })

-- the scene or the fault of the definition, unless memory ran out
abbrev pub Reads : Result Scene SceneFault → Result model.Scene Fault → Type 0
Reads (Ok scene) read = read ≡ Ok (scene_seen scene)
Reads (Err fault) read = FailsAt fault read

-- the same with the number of bytes that the scene takes
abbrev pub ReadsFront : Result (Scene × ℕ) SceneFault → Result (model.Scene × ℕ) Fault → Type 0
ReadsFront (Ok found) read = read ≡ Ok (scene_seen found.0, found.1)
ReadsFront (Err fault) read = FailsAt fault read
