-- How a scene is played into memory, and how its capture is put.
use Rattle.std.specs.Prelude.{◌≡◌, ◌⊎◌, ℕ, false, List, []}
use Rattle.scene_model.specs.Scene.{Scene}
use Rattle.scene_model.specs.Journal.{Journal, IsLawful, IsLawfulFront}
use Rattle.scene_model.specs.Output.{pictures_text, notes}
use Rattle.scene_player.specs.declared.status.Status.{Status}
use Rattle.scene_player.specs.declared.status.Status.TheVariants as played
use Rattle.io_whole.specs.Runs.{Putting, HasFailedToTake, IsUntouched, HasPut, HasPutFront}
use Rattle.frame_capture.specs.Film.{Film}
use Rattle.frame_capture.specs.Capture.{IsCapture}
use Rattle.capture_running.specs.declared.status.CaptureStatus.{CaptureStatus}
use Rattle.capture_running.specs.declared.status.CaptureStatus.TheVariants as status

-- how a scene was played into memory: all of its pictures are held, unless memory ran out
abbrev pub IsPlayedInto : Status → Scene → Journal → (held : List ℕ) → (noted : Putting) → Type 0
IsPlayedInto played.Done s journal held noted = IsLawful s journal × (held ≡ pictures_text s journal) × HasPut (notes s journal false) noted
IsPlayedInto played.NoteFault s journal held noted = IsLawful s journal × HasPutFront (notes s journal false) noted × HasFailedToTake noted
IsPlayedInto played.OutOfMemory s journal held noted = ((journal ≡ []) ⊎ IsLawfulFront s journal) × IsUntouched noted
IsPlayedInto _ s journal held noted = ⊥

-- the capture of these pictures was put, or a front of it where the sink failed, or nothing for want of memory
abbrev pub IsPut : CaptureStatus → Film → (sink : Putting) → Type 0
IsPut status.Done f sink = (capture : List ℕ) × IsCapture capture f × HasPut capture sink
IsPut status.PictureFault f sink = (capture : List ℕ) × IsCapture capture f × HasPutFront capture sink × HasFailedToTake sink
IsPut status.OutOfMemory f sink = IsUntouched sink
IsPut _ f sink = ⊥
