-- The numbers of statuses.
use Rattle.std.specs.Prelude.{ℕ}
use Rattle.check_running.specs.declared.status.CheckStatus.{CheckStatus}
use Rattle.check_running.specs.declared.status.CheckStatus.TheVariants as status

-- the exit number of a status
abbrev pub status_number : CheckStatus → ℕ
status_number status.Done = 0
status_number (status.Scene line cause) = 2
status_number status.ReadFault = 3
status_number status.LineFault = 4
status_number status.NoteFault = 5
status_number status.TooLong = 6
status_number status.OutOfMemory = 8
