use Rattle.std.proofs.Common.{◌≡◌, ◌+◌, ◌≤◌, length}
use Rattle.scene_model.specs.Field.{split_at}
use Rattle.scene_model.specs.JournalText.{journal_pieces, journal_of}
use Rattle.scene_text.specs.Journals.{behind_frames, frames_read}
use Rattle.scene_text.proofs.journal_reading.read_journal.Given as goal

-- what is left is read to what the whole is read to
abbrev pub invariant-loop-n : goal.invariant-loop-n
invariant-loop-n l = record {
  left : behind_frames (frames_read l.reading) l.reading.place (journal_pieces (split_at 10 l.rest) l.reading.left) ≡ journal_of l.bytes l.frames;
  place : l.reading.place + length l.rest ≤ length l.bytes;
}

abbrev pub decreases-loop-n : goal.decreases-loop-n
decreases-loop-n l = length l.rest
