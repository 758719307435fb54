-- The size of a scene's pictures, as it is measured.
use Rattle.std.specs.Prelude.{◌≡◌, ◌<◌, ◌≤◌, Result, Ok, Err, ⊤}
use Rattle.scene_model.specs.Scene.{Scene}
use Rattle.scene_model.specs.Grammar.{Fault}
use Rattle.spelling_model.specs.Readable.{IsReadable}
use Rattle.capture_running.specs.declared.status.CaptureStatus.{CaptureStatus}
use Rattle.capture_running.specs.declared.status.CaptureStatus.TheVariants as status
use Rattle.capture_running.specs.declared.size.Size.{Size}
use Rattle.capture_running.specs.Filmed.{all_texts_length, longest_texts}

-- a readable scene of this size, whose picture texts are not too long
pub record IsOfSize (size : Size) (s : Scene) : Type 0 where
  pub readable : IsReadable s
  pub width_is : size.width ≡ s.width
  pub height_is : size.height ≡ s.height
  pub length_is : size.texts_len ≡ all_texts_length s
  pub small : all_texts_length s ≤ longest_texts

-- the status with which what was read is refused; want of memory says nothing
abbrev pub RefusesAs : CaptureStatus → Result Scene Fault → Type 0
RefusesAs (status.Scene line cause) read = read ≡ Err (record { line = line; cause = cause })
RefusesAs status.TooLarge read = (s : Scene) × (read ≡ Ok s) × (longest_texts < all_texts_length s)
RefusesAs status.OutOfMemory read = ⊤
RefusesAs _ read = ⊥

-- the size of the scene that was read, or the status with which it is refused
abbrev pub Measures : Result Size CaptureStatus → Result Scene Fault → Type 0
Measures (Ok size) read = (s : Scene) × (read ≡ Ok s) × IsOfSize size s
Measures (Err st) read = RefusesAs st read
