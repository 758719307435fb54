use Rattle.std.proofs.Common.{sym, ◌∙◌, arith}
use Rattle.scene_text.specs.Journals.{entries_seen, frames_read}
use Rattle.scene_text.proofs.JournalLines.{line_passes}
use Rattle.scene_text.proofs.journal_reading.JournalReading.after_line.Goals as goal

pub returns-clause-after : goal.returns-clause-after
returns-clause-after c next rest =
    line_passes c.after_entries.result (frames_read c.args.self.now) (frames_read c.after_entries.new.self) c.args.self.now.place c.after_entries.new.self.place c.args.self.now.left c.after_entries.new.self.left c.args.line.now next rest (entries_seen c.in_ok-found.found)
    (sym c.is_skipped.ensures ∙ c.if-is_skipped.false) (omega (arith, c.if-self-eq0.false)) c.in_ok-found.ensures.value c.after_entries.ensures.left c.after_entries.ensures.after
