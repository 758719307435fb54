use Rattle.std.proofs.Common.{◌≡◌, ◌++◌, take, map, flat_map}
use Rattle.scene_model.specs.Output.{entry_text}
use Rattle.scene_text.specs.Seen.{entry_seen}
use Rattle.scene_text.proofs.journal_writing.put_entries.Given as goal

-- the entries so far
abbrev pub invariant-loop-entry : goal.invariant-loop-entry
invariant-loop-entry l = l.text.items ≡ l.initial.text.items ++ flat_map entry_text (map entry_seen (take l.entry-index l.entries))
