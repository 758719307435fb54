-- The numbers of statuses.
use Rattle.std.specs.Prelude.{ℕ}
use Rattle.diff_running.specs.declared.status.DiffStatus.{DiffStatus}
use Rattle.diff_running.specs.declared.status.DiffStatus.TheVariants as status

-- the exit number of a status
abbrev pub status_number : DiffStatus → ℕ
status_number status.Same = 0
status_number status.Different = 1
status_number (status.NoPicture pictures at) = 2
status_number (status.Count pictures) = 2
status_number (status.Sides frame) = 2
status_number status.ReadFault = 3
status_number status.LineFault = 4
status_number status.NoteFault = 5
status_number status.TooLong = 6
status_number status.OutOfMemory = 8
status_number status.Usage = 64
