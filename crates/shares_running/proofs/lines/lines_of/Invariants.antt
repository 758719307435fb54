use Rattle.std.proofs.Common.{◌≡◌, ◌++◌, drop}
use Rattle.shares_running.specs.Listed.{lists_seen, lines_of}
use Rattle.shares_running.proofs.lines.lines_of.Given as goal

-- the lines so far, and those of the lists that are left, are those of all
abbrev pub invariant-loop-number : goal.invariant-loop-number
invariant-loop-number l = l.lines.items ++ lines_of l.number (drop l.number (lists_seen l.lists)) ≡ lines_of 0 (lists_seen l.lists)
