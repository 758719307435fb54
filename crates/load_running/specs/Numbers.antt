-- The numbers of statuses.
use Rattle.std.specs.Prelude.{ℕ}
use Rattle.load_running.specs.declared.status.LoadStatus.{LoadStatus}
use Rattle.load_running.specs.declared.status.LoadStatus.TheVariants as status

-- the number with which the program ends
abbrev pub status_number : LoadStatus → ℕ
status_number status.Done = 0
status_number (status.Text line) = 2
status_number status.ReadFault = 3
status_number status.NoteFault = 5
status_number status.TooLong = 6
status_number status.OutOfMemory = 8
