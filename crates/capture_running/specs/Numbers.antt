-- The statuses as numbers.
use Rattle.std.specs.Prelude.{ℕ}
use Rattle.capture_running.specs.declared.status.CaptureStatus.{CaptureStatus}
use Rattle.capture_running.specs.declared.status.CaptureStatus.TheVariants as status

-- the number with which the program ends
abbrev pub status_number : CaptureStatus → ℕ
status_number status.Done = 0
status_number status.Usage = 1
status_number (status.Scene line cause) = 2
status_number status.ReadFault = 3
status_number status.PictureFault = 4
status_number status.NoteFault = 5
status_number status.TooLong = 6
status_number status.OutOfMemory = 8
status_number status.TooLarge = 9
status_number (status.Capture frame cause) = 10
