use Rattle.std.proofs.Common.{◌≡◌, ◌++◌, drop, option_map}
use Rattle.res_lock.specs.Seen.{entries_seen}
use Rattle.load_running.specs.Notes.{notes_of}
use Rattle.load_running.proofs.notes.history_notes.Given as goal

-- the lines so far, and those of the entries that are left
abbrev pub invariant-loop-entry : goal.invariant-loop-entry
invariant-loop-entry l = option_map (λ rest. l.text.items ++ rest) (notes_of (entries_seen (drop l.entry-index l.entries))) ≡ notes_of (entries_seen l.entries)
