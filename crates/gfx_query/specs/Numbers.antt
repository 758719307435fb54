-- The numbers of statuses.
use Rattle.std.specs.Prelude.{ℕ}
use Rattle.gfx_query.specs.declared.status.QueryStatus.{QueryStatus}
use Rattle.gfx_query.specs.declared.status.QueryStatus.TheVariants as status

-- the exit number of a status
abbrev pub status_number : QueryStatus → ℕ
status_number status.Done = 0
status_number (status.Text line) = 2
status_number status.ReadFault = 3
status_number status.NoteFault = 5
status_number status.TooLong = 6
status_number status.OutOfMemory = 8
