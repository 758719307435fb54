use Rattle.std.proofs.Common.{take}
use Rattle.resource_book.specs.Seen.{rows_seen}
use Rattle.resource_book.specs.Tables.{IsPlaced}
use Rattle.resource_book.proofs.table.number_all.Given as goal

-- the things in front have their numbers
abbrev pub invariant-loop-i : goal.invariant-loop-i
invariant-loop-i l = IsPlaced l.numbers.items (rows_seen (take l.i l.rows))
