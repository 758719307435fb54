-- The numbers of statuses.
use Rattle.std.specs.Prelude.{ℕ}
use Rattle.shares_running.specs.declared.status.SharesStatus.{SharesStatus}
use Rattle.shares_running.specs.declared.status.SharesStatus.TheVariants as status

-- the exit number of a status
abbrev pub status_number : SharesStatus → ℕ
status_number status.Done = 0
status_number status.Usage = 1
status_number (status.Scene line cause) = 2
status_number status.ReadFault = 3
status_number status.NoteFault = 5
status_number status.TooLong = 6
status_number status.OutOfMemory = 8
