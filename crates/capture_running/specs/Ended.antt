-- What is known after a run, for each status with which it may end.
use Rattle.std.specs.Prelude.{◌≡◌, ◌⊎◌, ℕ, ◌<◌, ◌≤◌, nat_lt, if◌then◌else◌, false, List, [], length, Option, Some, None, Result, Ok, Err, ⊤}
use Rattle.io_edge.specs.Edge.{IsSpent}
use Rattle.scene_model.specs.Scene.{Scene}
use Rattle.scene_model.specs.Grammar as grammar
use Rattle.scene_model.specs.Grammar.{scene_of, whole_language}
use Rattle.scene_model.specs.Journal.{Journal, IsLawful, IsLawfulFront}
use Rattle.scene_model.specs.Output.{notes}
use Rattle.scene_model.specs.Run.{longest_input}
use Rattle.io_whole.specs.Whole.{HasMoreThan}
use Rattle.io_whole.specs.Runs.{Reading, HasFailedToGive, IsUnread, AreLeft, Putting, HasFailedToTake, IsUntouched, HasPut, HasPutFront}
use Rattle.frame_capture.specs.Film.{Film, texts}
use Rattle.frame_capture.specs.Capture.{IsCapture}
use Rattle.frame_capture.specs.Fault.{Fault, shown}
use Rattle.capture_running.specs.Filmed.{all_texts_length, longest_texts, IsCaptureOf}
use Rattle.capture_running.specs.declared.words.Mode.{Mode}
use Rattle.capture_running.specs.declared.words.Mode.TheVariants as modes
use Rattle.capture_running.specs.declared.status.CaptureStatus.{CaptureStatus}
use Rattle.capture_running.specs.declared.status.CaptureStatus.TheVariants as status

-- a capture has at most 192 MiB
abbrev pub longest_capture : ℕ
longest_capture = 201326592

-- ---- what was read, and where nothing was put

-- the source gave these bytes, no more than so many, and was read to its end
pub record IsRead (most : ℕ) (bytes : List ℕ) (source : Reading) : Type 0 where
  pub were_left : AreLeft source.before bytes
  pub spent : IsSpent source.after
  pub few : length bytes ≤ most

-- the source gave a text of this scene, which is not too long, and was read to its end
pub record HasGiven (s : Scene) (source : Reading) : Type 0 where
  pub bytes : List ℕ
  pub read : IsRead longest_input bytes source
  pub is : scene_of whole_language bytes ≡ Ok s

-- no frame ended, and nothing was put
pub record IsBlank (journal : Journal) (sink noted : Putting) : Type 0 where
  pub no_frame : journal ≡ []
  pub not_put : IsUntouched sink
  pub not_noted : IsUntouched noted

-- ---- `record`

-- the scene was given and was played by this lawful journal, and its picture texts are not too long
pub record IsPlayed (s : Scene) (source : Reading) (journal : Journal) : Type 0 where
  pub given : HasGiven s source
  pub small : all_texts_length s ≤ longest_texts
  pub lawful : IsLawful s journal

-- memory ran out: before the scene was played; in the play, of which the journal is lawful as far as it goes; or behind it, when the
-- scene's notes stand
abbrev pub IsStarved : Reading → Journal → (noted : Putting) → Type 0
IsStarved source journal noted =
    ((journal ≡ []) × IsUntouched noted)
    ⊎ ((s : Scene) × HasGiven s source × ((IsLawfulFront s journal × IsUntouched noted) ⊎ (IsLawful s journal × HasPut (notes s journal false) noted)))

-- what stands after `record`
abbrev pub EndsRecord : CaptureStatus → Reading → Journal → (sink noted : Putting) → Type 0
EndsRecord status.Done source journal sink noted =
    (s : Scene) × IsPlayed s source journal × (capture : List ℕ) × IsCaptureOf s journal capture × HasPut capture sink × HasPut (notes s journal false) noted
EndsRecord status.PictureFault source journal sink noted =
    (s : Scene) × IsPlayed s source journal × (capture : List ℕ) × IsCaptureOf s journal capture × HasPutFront capture sink × HasFailedToTake sink × HasPut (notes s journal false) noted
EndsRecord status.NoteFault source journal sink noted =
    (s : Scene) × IsPlayed s source journal × IsUntouched sink × HasPutFront (notes s journal false) noted × HasFailedToTake noted
EndsRecord (status.Scene line cause) source journal sink noted =
    (bytes : List ℕ) × IsRead longest_input bytes source × (scene_of whole_language bytes ≡ Err (record { line = line; cause = cause })) × IsBlank journal sink noted
EndsRecord status.TooLarge source journal sink noted = (s : Scene) × HasGiven s source × (longest_texts < all_texts_length s) × IsBlank journal sink noted
EndsRecord status.TooLong source journal sink noted = HasMoreThan longest_input source.before × IsBlank journal sink noted
EndsRecord status.ReadFault source journal sink noted = HasFailedToGive source × IsBlank journal sink noted
EndsRecord status.OutOfMemory source journal sink noted = IsUntouched sink × IsStarved source journal noted
EndsRecord _ source journal sink noted = ⊥

-- the status of a scene that was read: that of its fault, or of its pictures
abbrev pub status_of_scene : Result Scene grammar.Fault → CaptureStatus
status_of_scene (Ok s) = if nat_lt longest_texts (all_texts_length s) then status.TooLarge else status.Done
status_of_scene (Err fault) = status.Scene fault.line fault.cause

-- the status of bytes that are recorded, where nothing fails
abbrev pub record_status : List ℕ → CaptureStatus
record_status bytes = if nat_lt longest_input (length bytes) then status.TooLong else status_of_scene (scene_of whole_language bytes)

-- ---- `show`

-- what stands after `show`
abbrev pub EndsShow : CaptureStatus → Reading → (sink : Putting) → Type 0
EndsShow status.Done source sink =
    (bytes : List ℕ) × IsRead longest_capture bytes source × (f : Film) × IsCapture bytes f × HasPut (texts f) sink
EndsShow status.PictureFault source sink =
    (bytes : List ℕ) × IsRead longest_capture bytes source × (f : Film) × IsCapture bytes f × HasPutFront (texts f) sink × HasFailedToTake sink
EndsShow (status.Capture frame cause) source sink =
    (bytes : List ℕ) × IsRead longest_capture bytes source × (shown bytes ≡ Err (record { frame = frame; cause = cause })) × IsUntouched sink
EndsShow status.ReadFault source sink = HasFailedToGive source × IsUntouched sink
EndsShow status.TooLong source sink = HasMoreThan longest_capture source.before × IsUntouched sink
EndsShow status.OutOfMemory source sink = IsUntouched sink
EndsShow _ source sink = ⊥

-- the status of what was read of a capture
abbrev pub by_reading : Result (List ℕ) Fault → CaptureStatus
by_reading (Ok text) = status.Done
by_reading (Err fault) = status.Capture fault.frame fault.cause

-- the status of bytes that are shown, where nothing fails
abbrev pub show_status : List ℕ → CaptureStatus
show_status bytes = if nat_lt longest_capture (length bytes) then status.TooLong else by_reading (shown bytes)

-- ---- the whole run

-- the end of a run; words that name nothing are refused, and nothing is read
abbrev pub Ends : CaptureStatus → Option Mode → Reading → Journal → (sink noted : Putting) → Type 0
Ends st None source journal sink noted = (st ≡ status.Usage) × IsUnread source × IsBlank journal sink noted
Ends st (Some modes.Record) source journal sink noted = EndsRecord st source journal sink noted
Ends st (Some modes.Show) source journal sink noted = EndsShow st source sink × (journal ≡ []) × IsUntouched noted

-- the status of the words and the bytes, where nothing fails
abbrev pub status_of : Option Mode → List ℕ → CaptureStatus
status_of None bytes = status.Usage
status_of (Some modes.Record) bytes = record_status bytes
status_of (Some modes.Show) bytes = show_status bytes

-- the source told these bytes as those that were left, and did not fail, if it is read
abbrev pub IsGiven : Option Mode → Reading → List ℕ → Type 0
IsGiven None source bytes = ⊤
IsGiven (Some m) source bytes = (source.before ≡ Some bytes) × (HasFailedToGive source → ⊥)

-- the sink did not fail, nor did the notes, if they are put to
abbrev pub AreTaken : Option Mode → (sink noted : Putting) → Type 0
AreTaken None sink noted = ⊤
AreTaken (Some modes.Record) sink noted = (HasFailedToTake sink → ⊥) × (HasFailedToTake noted → ⊥)
AreTaken (Some modes.Show) sink noted = HasFailedToTake sink → ⊥

-- the run ends so, or for want of memory
abbrev pub EndsAs : (wanted st : CaptureStatus) → Type 0
EndsAs wanted st = (st ≡ wanted) ⊎ (st ≡ status.OutOfMemory)
