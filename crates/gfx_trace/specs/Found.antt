-- What is read of an input, against what the definition reads.
use Rattle.std.specs.Prelude.{◌≡◌, ℕ, Option, Some, None, Result, Ok, Err, option_map, ⊤}
use Rattle.scene_model.specs.Scene.{Scene}
use Rattle.scene_model.specs.Fold.{plans}
use Rattle.scene_model.specs.Journal.{Journal, fault_place}
use Rattle.scene_text.specs.declared.journal.Journal as text
use Rattle.scene_text.specs.declared.journal.JournalFault.{JournalFault}
use Rattle.scene_text.specs.declared.journal.JournalFault.TheVariants as faults
use Rattle.scene_text.specs.Seen.{journal_seen, scene_seen}
use Rattle.scene_tracing.specs.Asked.{journal_asked}
use Rattle.gfx_trace.specs.Asked as model
use Rattle.gfx_trace.specs.declared.asked.Asked.{Asked}
use Rattle.gfx_trace.specs.declared.asked.AskedFault.{AskedFault}
use Rattle.gfx_trace.specs.declared.asked.AskedFault.TheVariants as asked_faults

-- the place of the text's fault, or else of the journal's
abbrev pub place_of : Scene → Result Journal ℕ → Option ℕ
place_of s (Ok journal) = fault_place (plans s) journal
place_of s (Err place) = Some place

-- the place is that of the fault, unless memory ran out
abbrev pub FailsLawful : JournalFault → Scene → Result Journal ℕ → Type 0
FailsLawful faults.OutOfMemory s read = ⊤
FailsLawful (faults.At place) s read = place_of s read ≡ Some place

-- the journal that was read is lawful, or the place is that of its fault, unless memory ran out
abbrev pub ReadsLawful : Result text.Journal JournalFault → Scene → Result Journal ℕ → Type 0
ReadsLawful (Ok journal) s read = (read ≡ Ok (journal_seen journal)) × (fault_place (plans s) (journal_seen journal) ≡ None)
ReadsLawful (Err fault) s read = FailsLawful fault s read

-- what was found, as the definition says it
abbrev pub asked_seen : Asked → model.Asked
asked_seen a = model.scene_by (scene_seen a.scene) (journal_asked (scene_seen a.scene) (option_map journal_seen a.journal))

-- the fault is the definition's, unless memory ran out
abbrev pub FailsAsked : AskedFault → model.Asked → Type 0
FailsAsked (asked_faults.Scene line cause) asked = asked ≡ model.no_scene (record { line = line; cause = cause })
FailsAsked (asked_faults.Journal place) asked = asked ≡ model.no_journal place
FailsAsked asked_faults.OutOfMemory asked = ⊤

-- what was found is what the input asks for, or the fault is the definition's
abbrev pub IsFound : Result Asked AskedFault → model.Asked → Type 0
IsFound (Ok found) asked = asked ≡ asked_seen found
IsFound (Err fault) asked = FailsAsked fault asked
