use Rattle.std.proofs.Common.{◌≡◌, map, take}
use Rattle.frame_record.specs.Seen.{entry_seen}
use Rattle.frame_record.proofs.collecting.entries_of.Given as goal

-- the entries before the index are there
abbrev pub invariant-loop-numbered : goal.invariant-loop-numbered
invariant-loop-numbered l = map entry_seen l.journal.items ≡ map (λ n. entry_seen n.entry) (take l.numbered-index l.all)
