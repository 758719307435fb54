use Rattle.std.proofs.Common.{◌≡◌, drop, map}
use Rattle.scene_model.specs.JournalText.{entries_in}
use Rattle.text_fields.specs.Fields.{texts}
use Rattle.scene_text.specs.Seen.{entry_seen}
use Rattle.scene_text.proofs.JournalLines.{entries_after}
use Rattle.scene_text.proofs.journal_reading.entries_in.Given as goal

-- the entries so far, and those of the rest
abbrev pub invariant-loop-field : goal.invariant-loop-field
invariant-loop-field l = entries_after (map entry_seen l.entries.items) (entries_in (drop l.field-index (texts l.fields))) ≡ entries_in (texts l.fields)
