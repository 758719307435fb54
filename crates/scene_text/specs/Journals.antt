-- What reading a journal answers, against the definition.
use Rattle.std.specs.Prelude.{◌≡◌, ℕ, ◌+◌, nat_lt, Bool, true, false, ◌&&◌, ◌==◌, if◌then◌else◌, List, [], ◌∷◌, ◌++◌, map, length, sum, sum_by, slice_get, Option, Some, None, Result, Ok, Err}
use Rattle.scene_model.specs.Field.{split_at}
use Rattle.scene_model.specs.Fold.{Accepted, FramePlan}
use Rattle.scene_model.specs.Journal as model
use Rattle.scene_model.specs.JournalText.{EntriesRead}
use Rattle.scene_text.specs.declared.journal.Journal.{Journal}
use Rattle.scene_text.specs.declared.journal.JournalFault.{JournalFault}
use Rattle.scene_text.specs.declared.journal.JournalFault.TheVariants as faults
use Rattle.scene_text.specs.declared.journal_reading.LineEntries.{LineEntries}
use Rattle.scene_text.specs.declared.journal_reading.JournalReading.{JournalReading}
use Rattle.scene_text.specs.Seen.{entry_seen, journal_seen}

-- the place is the definition's, unless memory ran out
abbrev pub FailsIn : JournalFault → Result model.Journal ℕ → Type 0
FailsIn faults.OutOfMemory read = Unit {0}
FailsIn (faults.At place) read = read ≡ Err place

-- the journal or the place of the definition, unless memory ran out
abbrev pub ReadsJournal : Result Journal JournalFault → Result model.Journal ℕ → Type 0
ReadsJournal (Ok journal) read = read ≡ Ok (journal_seen journal)
ReadsJournal (Err fault) read = FailsIn fault read

-- whether a field falls into one piece at the colons
abbrev pub IsOnePiece : Bool → List ℕ → Type 0
IsOnePiece true f = split_at 58 f ≡ f ∷ []
IsOnePiece false f = (a : List ℕ) × (b : List ℕ) × (rest : List (List ℕ)) × (split_at 58 f ≡ a ∷ b ∷ rest)

-- the entries of all frames
abbrev pub entry_count : model.Journal → ℕ
entry_count j = sum_by length j

-- the journal behind frames that were read, or the place behind their entries
abbrev pub behind_frames : model.Journal → ℕ → Result model.Journal ℕ → Result model.Journal ℕ
behind_frames done count (Ok j) = Ok (done ++ j)
behind_frames done count (Err place) = Err (count + place)

-- a line is read where what follows it makes the same of the text, and else the text's place is the fault's
abbrev pub Passes : {A : Type 0} → Result A JournalFault → (before after : Result model.Journal ℕ) → Type 0
Passes (Ok x) before after = before ≡ after
Passes (Err fault) before after = FailsIn fault before

-- the entries of a line as the definition reads them
abbrev pub entries_seen : LineEntries → EntriesRead
entries_seen r = record { entries = map entry_seen r.entries.items; is_whole = r.is_whole }

-- the frames that were read
abbrev pub frames_read : JournalReading → model.Journal
frames_read r = map (map entry_seen) r.frames.items

-- ---- lawfulness by the numbers of items alone

-- how many items each encoder of a frame has
abbrev pub counts_in : List Accepted → List ℕ
counts_in encoders = map (λ a. length a.items) encoders

-- the same of each frame
abbrev pub counts_of : List FramePlan → List (List ℕ)
counts_of plans = map (λ p. counts_in p.encoders) plans

-- whether an encoder that is there has an item of that ordinal
abbrev pub has_item : ℕ → Option ℕ → Bool
has_item ordinal None = false
has_item ordinal (Some count) = nat_lt ordinal count

-- an entry is the next of its encoder, and the encoder has such an item
abbrev pub can_stand : List ℕ → List model.Entry → model.Entry → Bool
can_stand counts earlier n = (n.ordinal == length (model.ordinals_of n.encoder earlier)) && has_item n.ordinal (slice_get counts n.encoder)

-- how many entries stand before the first fault of a frame
abbrev pub fault_in : List ℕ → List model.Entry → List model.Entry → Option ℕ
fault_in counts earlier [] = if length earlier == sum counts then None else Some (length earlier)
fault_in counts earlier (n ∷ rest) = if can_stand counts earlier n then fault_in counts (earlier ++ n ∷ []) rest else Some (length earlier)

-- the same of a journal
abbrev pub fault_from : List (List ℕ) → model.Journal → Option ℕ
fault_from [] [] = None
fault_from [] (entries ∷ rest) = Some 0
fault_from (c ∷ cs) [] = Some 0
fault_from (c ∷ cs) (entries ∷ rest) = model.fault_of_frames (length entries) (fault_in c [] entries) (fault_from cs rest)
