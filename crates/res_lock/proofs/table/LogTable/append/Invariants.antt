use Rattle.res_lock.specs.Seen.{entry_seen}
use Rattle.res_lock.proofs.table.LogTable.append.Given as goal

-- the entry that is appended
abbrev pub ghosts-append_as : goal.ghosts-append_as
ghosts-append_as a = record { entry = entry_seen a.entry.now }
