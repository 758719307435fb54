-- What a run answers as a whole, where nothing fails and memory is there: how it ends, its pictures, its journal and its notes.
use Rattle.std.specs.Prelude.{◌≡◌, ℕ, nat_lt, Bool, if◌then◌else◌, List, [], length, drop, Option, Some, None, Result, Ok, Err, ⊤}
use Rattle.scene_model.specs.Scene.{Scene}
use Rattle.scene_model.specs.Grammar.{Fault, scene_of, front_of, whole_language}
use Rattle.scene_model.specs.Fold.{plans}
use Rattle.scene_model.specs.Journal.{Journal, IsLawful, fault_place}
use Rattle.scene_model.specs.JournalText.{journal_of}
use Rattle.scene_model.specs.Output.{pictures_text, notes, make_note, usage_line, scene_line, length_line, journal_refusal_line}
use Rattle.scene_model.specs.Generated.{generated}

-- how a run ends: all is written, or what is refused
pub data Ending : Type 0 where
  all_done : Ending
  words_refused : Ending
  scene_refused : (line cause : ℕ) → Ending
  input_too_long : Ending
  journal_refused : (place : ℕ) → Ending

-- the number with which the program ends
abbrev pub status_number : Ending → ℕ
status_number all_done = 0
status_number words_refused = 1
status_number (scene_refused line cause) = 2
status_number input_too_long = 6
status_number (journal_refused place) = 7

-- the pictures and the notes are bytes
pub record Run : Type 0 where
  pub ending : Ending
  pub pictures : List ℕ
  pub journal : Journal
  pub noted : List ℕ

-- an input has at most 16 MiB
abbrev pub longest_input : ℕ
longest_input = 16777216

-- a refusal shows nothing and notes its line
abbrev pub refused : Ending → List ℕ → Run
refused ending line = record { ending = ending; pictures = []; journal = []; noted = line }

-- the words are refused
abbrev pub unused : Run
unused = refused words_refused usage_line

-- the scene's text is refused
abbrev pub misread : Fault → Run
misread f = refused (scene_refused f.line f.cause) (scene_line f.line f.cause)

-- the journal's text or the journal is refused
abbrev pub unlawful : (place : ℕ) → Run
unlawful place = refused (journal_refused place) (journal_refusal_line place)

-- a scene is shown by a journal, which the notes have where it is asked for
abbrev pub shown : (with_journal : Bool) → Scene → Journal → Run
shown with_journal s j = record { ending = all_done; pictures = pictures_text s j; journal = j; noted = notes s j with_journal }

-- a run over an input that is not too long
abbrev pub within_length : List ℕ → Run → Run
within_length bytes run = if nat_lt longest_input (length bytes) then refused input_too_long length_line else run

-- ---- play

-- what was read is shown by the journal whose numbers were drawn
abbrev pub played_scene : (with_journal : Bool) → (drawn : Scene → Journal) → Result Scene Fault → Run
played_scene with_journal drawn (Ok s) = shown with_journal s (drawn s)
played_scene with_journal drawn (Err f) = misread f

-- `play` of an input
abbrev pub played : (with_journal : Bool) → (drawn : Scene → Journal) → List ℕ → Run
played with_journal drawn bytes = within_length bytes (played_scene with_journal drawn (scene_of whole_language bytes))

-- a journal is lawful for the scene, where one was read
abbrev pub IsLawfulFor : Journal → Result Scene Fault → Type 0
IsLawfulFor j (Ok s) = IsLawful s j
IsLawfulFor j (Err f) = ⊤

-- a run is one of those that `play` may have: its journal is some lawful one
abbrev pub IsPlayed : (with_journal : Bool) → List ℕ → Run → Type 0
IsPlayed with_journal bytes run = (j : Journal) × IsLawfulFor j (scene_of whole_language bytes) × (run ≡ played with_journal (λ s. j) bytes)

-- ---- replay

-- a journal that was read is shown where it has no fault
abbrev pub shown_unless : (with_journal : Bool) → Scene → Journal → Option ℕ → Run
shown_unless with_journal s j None = shown with_journal s j
shown_unless with_journal s j (Some place) = unlawful place

-- the journal's text is judged first, and the journal next
abbrev pub replayed_by : (with_journal : Bool) → Scene → Result Journal ℕ → Run
replayed_by with_journal s (Ok j) = shown_unless with_journal s j (fault_place (plans s) j)
replayed_by with_journal s (Err place) = unlawful place

-- the journal's text follows the scene's
abbrev pub replayed_behind : (with_journal : Bool) → List ℕ → Result (Scene × ℕ) Fault → Run
replayed_behind with_journal bytes (Ok front) = replayed_by with_journal front.0 (journal_of (drop front.1 bytes) (length front.0.frames))
replayed_behind with_journal bytes (Err f) = misread f

-- `replay` of an input
abbrev pub replayed : (with_journal : Bool) → List ℕ → Run
replayed with_journal bytes = within_length bytes (replayed_behind with_journal bytes (front_of whole_language bytes))

-- ---- make

-- `make` of some frames: the generated scene is drawn and not shown
abbrev pub made : (count : ℕ) → (drawn : Scene → Journal) → Run
made count drawn = let s = generated count in record { ending = all_done; pictures = []; journal = drawn s; noted = make_note s (drawn s) }

-- a run is one of those that `make` may have
abbrev pub IsMade : (count : ℕ) → Run → Type 0
IsMade count run = (j : Journal) × IsLawful (generated count) j × (run ≡ made count (λ s. j))
