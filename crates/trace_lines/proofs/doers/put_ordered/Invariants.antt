use Rattle.std.proofs.Common.{◌≡◌, ◌++◌, map, take}
use Rattle.frame_record.specs.Seen.{entry_seen}
use Rattle.trace_lines.proofs.doers.put_ordered.Given as goal

abbrev pub invariant-loop-item : goal.invariant-loop-item
invariant-loop-item l = map entry_seen l.entries.items ≡ map entry_seen l.fn.entries.items ++ map (λ o. entry_seen o.entry) (take l.item-index l.ordered)
