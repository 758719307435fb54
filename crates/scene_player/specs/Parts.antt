-- What the parts of a run answer.
use Rattle.std.specs.Prelude.{◌≡◌, ◌⊎◌, ℕ, Bool, true, false, List, [], Option, None, Some, Result, Ok, Err}
use Rattle.scene_model.specs.Scene.{Scene}
use Rattle.scene_model.specs.Fold.{plans}
use Rattle.scene_model.specs.Journal.{Journal, fault_place}
use Rattle.scene_text.specs.declared.journal.Journal as text
use Rattle.scene_text.specs.declared.journal.JournalFault.{JournalFault}
use Rattle.scene_text.specs.declared.journal.JournalFault.TheVariants as faults
use Rattle.scene_text.specs.Seen.{journal_seen}
use Rattle.command_line_model.specs.Taken.{play, replay, make, Command}
use Rattle.scene_player.specs.declared.status.Status.{Status}
use Rattle.scene_player.specs.declared.status.Status.TheVariants as status
use Rattle.io_whole.specs.Runs.{Putting, IsUntouched, HasTried}
use Rattle.scene_player.specs.Ended.{IsBlank}

-- the command that shows an input, by its own journal or by one that follows it
abbrev pub showing_command : (is_replay with_journal : Bool) → (count : ℕ) → Command
showing_command true with_journal count = record { mode = replay; journal = with_journal; count = count }
showing_command false with_journal count = record { mode = play; journal = with_journal; count = count }

-- the command that makes frames
abbrev pub making_command : (with_journal : Bool) → (count : ℕ) → Command
making_command with_journal count = record { mode = make; journal = with_journal; count = count }

-- a run was refused with this status and this line: no frame ended, no picture was put, and the line was put into the notes
pub record IsRefusedWith (wanted st : Status) (line : List ℕ) (journal : Journal) (pictures notes : Putting) : Type 0 where
  pub is : st ≡ wanted
  pub no_frame : journal ≡ []
  pub no_picture : IsUntouched pictures
  pub noted : HasTried line notes

-- the same, unless there was no memory for the line
abbrev pub MayRefuse : (wanted st : Status) → (line : List ℕ) → Journal → (pictures notes : Putting) → Type 0
MayRefuse wanted st line journal pictures notes = IsRefusedWith wanted st line journal pictures notes ⊎ ((st ≡ status.OutOfMemory) × IsBlank journal pictures notes)

-- the place of the text's fault, or else of the journal's
abbrev pub place_of : Scene → Result Journal ℕ → Option ℕ
place_of s (Ok journal) = fault_place (plans s) journal
place_of s (Err place) = Some place

-- the place is that of the fault, unless memory ran out
abbrev pub FailsLawful : JournalFault → Scene → Result Journal ℕ → Type 0
FailsLawful faults.OutOfMemory s read = Unit {0}
FailsLawful (faults.At place) s read = place_of s read ≡ Some place

-- the journal that was read is lawful, or the place is that of its fault, unless memory ran out
abbrev pub ReadsLawful : Result text.Journal JournalFault → Scene → Result Journal ℕ → Type 0
ReadsLawful (Ok journal) s read = (read ≡ Ok (journal_seen journal)) × (fault_place (plans s) (journal_seen journal) ≡ None)
ReadsLawful (Err fault) s read = FailsLawful fault s read
