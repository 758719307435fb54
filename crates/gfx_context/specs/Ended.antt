-- How a frame ends, and how a context is shut down.
use Rattle.std.specs.Prelude.{ℕ, ◌≡◌, ◌<◌, ◌+◌, Bool, true, false, List, [], ◌∷◌, ◌++◌, map, length, Option, Some, None, Result, IfOk, MatchResult, MatchOption}
use Rattle.gfx_model.specs.World.{Item}
use Rattle.gfx_model.specs.Frames.{collected}
use Rattle.gfx_model.specs.FrameCalls.{end_frame, shut_down, frame_refusal, frame_effect, is_given}
use Rattle.gfx_words.specs.declared.journal.JournalEntry.{JournalEntry}
use Rattle.gfx_words.specs.declared.refusals.Refusal.{Refusal}
use Rattle.schedule_model.specs.Held.{count_of}
use Rattle.hold_table.specs.Views.{SeatView, advanced, joined_with}
use Rattle.resource_book.specs.Answered.{IsFirstRefusalOrOutOfMemory}
use Rattle.resource_book.specs.Works.{with_nothing_written}
use Rattle.resource_book.specs.declared.frames.Work.{Work}
use Rattle.draw_encoder.specs.declared.items.Recording.{Recording}
use Rattle.frame_record.specs.declared.frame.Frame.{Frame}
use Rattle.frame_record.specs.declared.frame.RenderedFrame.{RenderedFrame}
use Rattle.frame_record.specs.declared.frame.Outcome.{Outcome}
use Rattle.frame_record.specs.declared.frame.Outcome.TheVariants as outcomes
use Rattle.frame_record.specs.Kept.{numbers_in}
use Rattle.frame_record.specs.Links.{frames_of, CameBack}
use Rattle.frame_record.specs.Seen.{entry_seen, recordings_seen}
use Rattle.gfx_context.specs.declared.report.BackNote.{BackNote}
use Rattle.gfx_context.specs.declared.report.FrameReport.{FrameReport}
pub use Rattle.context_core.specs.Ended.{started}
use Rattle.context_core.specs.Ended.{with_work}
use Rattle.context_core.specs.Ended as cores
use Rattle.context_core.specs.Gathered.{AreOfFrame, dropped_in, with_gathered}
use Rattle.context_core.specs.States.{Gathering}
use Rattle.gfx_context.specs.States.{ContextView, state_of}

-- ---- the bundles of a frame

-- the encoder was off and is so no longer, its numbers are gathered, its recording is kept, and nothing else changed
pub record Gathers {L : Type 0} (r : Recording) (seat : SeatView) (old new : ContextView L) : Type 0 where
  pub was_off : count_of seat.encoder old.seat.off ≡ 1
  pub fewer : length new.seat.off + 1 ≡ length old.seat.off
  pub after : new ≡ record old { seat = joined_with old.seat seat; gathered = old.gathered ++ r ∷ [] }

-- no encoder of the frame is off, the recordings are those of exactly the encoders that were begun, what was collected before stays before the others,
-- and nothing else changed
pub record Collects {L : Type 0} (admits : ℕ → ℕ → List Item → ℕ → Type 0) (views : ℕ) (old new : ContextView L) : Type 0 where
  pub none_off : new.seat.off ≡ []
  pub more : List Recording
  pub kept : new.gathered ≡ old.gathered ++ more
  pub recordings : AreOfFrame admits views old.seat.frame old.seat.places old.begun new.gathered
  pub seat : new.seat ≡ with_gathered new.seat old.seat
  pub same : new ≡ record old { seat = new.seat; gathered = new.gathered }

-- ---- the end of a frame

-- the number and the outcome of a frame that came back
abbrev pub note_of : RenderedFrame → BackNote
note_of r = record { number = r.frame.number; outcome = r.outcome }

abbrev pub is_shown_outcome : Outcome → Bool
is_shown_outcome outcomes.Shown = true
is_shown_outcome _ = false

-- whether the frame that came back was shown; where none came, nothing was not
abbrev pub is_shown : Option BackNote → Bool
is_shown None = true
is_shown (Some n) = is_shown_outcome n.outcome

-- the oldest frame that was out came back, and the note is of it
pub record IsBack (n : BackNote) (given : List Frame) (old new : List RenderedFrame) : Type 0 where
  pub rendered : RenderedFrame
  pub note : n ≡ note_of rendered
  pub oldest : CameBack given old new rendered

-- the oldest frame that was out came back exactly where as many were out as may be, and the note is of it
abbrev pub MakesWay : {L : Type 0} → Option BackNote → ContextView L → (back : List RenderedFrame) → Type 0
MakesWay note old back =
    MatchOption note
    ((old.out < old.book.resources.latency) × (back ≡ old.back))
    (λ n. (old.out ≡ old.book.resources.latency) × IsBack n old.given old.back back)

-- a frame is what the context has of it
abbrev pub IsFrameOf : {L : Type 0} → ContextView L → Frame → Type 0
IsFrameOf old f = cores.IsFrameOf old.book old.gathered f

-- what a frame that is given now is made of
abbrev pub gathering_of : {L : Type 0} → ContextView L → Gathering
gathering_of v = record { seat = v.seat; recordings = v.gathered }

-- the frame is given, and the next one starts with nothing written, begun or gathered; the numbers of its items are those that the seat gathered: from its
-- first to below the next one's, each once
pub record Gives {L : Type 0} (old new : ContextView L) : Type 0 where
  pub frame : Frame
  pub given : new.given ≡ old.given ++ frame ∷ []
  pub is_of : IsFrameOf old frame
  pub drawn : old.seat.numbers ≡ numbers_in old.gathered
  pub numbered : cores.AreNumbered old.seat.base new.seat.base (numbers_in old.gathered)
  pub seat : new.seat ≡ record (advanced new.seat.base old.seat) { places = new.seat.places }
  pub same : new ≡ record old { book = started old.book; seat = new.seat; begun = 0; gathered = []; last = gathering_of old; out = new.out; given = new.given; back = new.back; link = new.link }

-- the frame of this number was given last
abbrev pub IsLast : ℕ → List Frame → Type 0
IsLast number given = (before : List Frame) × (frame : Frame) × (given ≡ before ++ frame ∷ []) × (frame.number ≡ number)

-- with work written in it
abbrev pub with_written : {L : Type 0} → Work → ContextView L → ContextView L
with_written work v = record v { book = with_work work v.book }

-- the frame is given with work that was taken before, or the context is ended
abbrev pub FinishesWhere : {L : Type 0} → Bool → Work → (old new : ContextView L) → Type 0
FinishesWhere true work old new = Gives (with_written work old) new × (new.out ≡ old.out + 1) × (new.back ≡ old.back)
FinishesWhere false work old new = new ≡ record old { is_ended = true }

-- the frame is given, or what was written is given up and the context is ended
abbrev pub GivesWhere : {L : Type 0} → Bool → (old new : ContextView L) → Type 0
GivesWhere true old new = Gives old new
GivesWhere false old new = new ≡ record old { book = with_nothing_written old.book; out = new.out; back = new.back; link = new.link; is_ended = true }

-- the end of a frame is the definition's by whether the frame that came back was shown, and the report tells of it
pub record Ends {L : Type 0} (report : FrameReport) (old new : ContextView L) : Type 0 where
  pub accepted : frame_refusal (state_of old) end_frame ≡ None
  pub number : report.number ≡ old.book.resources.frame
  pub journal : map entry_seen report.journal.items ≡ collected (recordings_seen old.gathered)
  pub many : length report.journal.items ≡ length (numbers_in old.gathered)
  pub dropped : report.dropped ≡ dropped_in old.gathered
  pub back : MakesWay report.back old new.back
  pub given : report.given ≡ is_given (is_shown report.back) (state_of old)
  pub state : state_of new ≡ (frame_effect (is_shown report.back) (state_of old) end_frame).after
  pub gives : GivesWhere report.given old new

-- the end of a frame whose bundles are collected; a refused one changes nothing. Memory is wanting only where no test refuses
abbrev pub IsEnd : {L : Type 0} → Result FrameReport Refusal → (old new : ContextView L) → Type 0
IsEnd result old new =
    MatchResult result
    (λ report. Ends report old new)
    (λ r. IsFirstRefusalOrOutOfMemory (frame_refusal (state_of old) end_frame) r × (new ≡ old))

-- the journal of the frame that was given last is the order of the numbers that its encoders drew: its recordings are those that the core gathered for it, their
-- numbers are those that the core's seat gathered from the encoders' seats, and the entries are theirs by number. The journal that is told is the frame's
pub record IsOrderDrawn {L : Type 0} (journal : List JournalEntry) (new : ContextView L) : Type 0 where
  pub before : List Frame
  pub frame : Frame
  pub given : new.given ≡ before ++ frame ∷ []
  pub recordings : frame.recordings.items ≡ new.last.recordings
  pub numbers : numbers_in frame.recordings.items ≡ new.last.seat.numbers
  pub order : map entry_seen frame.journal.items ≡ collected (recordings_seen frame.recordings.items)
  pub told : map entry_seen journal ≡ map entry_seen frame.journal.items

-- where the frame was given, its journal is that order
abbrev pub TellsOrderDrawn : {L : Type 0} → Result FrameReport Refusal → ContextView L → Type 0
TellsOrderDrawn result new = IfOk result (λ report. report.given ≡ true → IsOrderDrawn report.journal.items new)

-- the bundles are collected, and then the frame ends
pub record CollectsAndEnds {L : Type 0} (admits : ℕ → ℕ → List Item → ℕ → Type 0) (views : ℕ) (result : Result FrameReport Refusal) (old new : ContextView L) : Type 0 where
  pub collected : ContextView L
  pub collects : Collects admits views old collected
  pub ends : IsEnd result collected new

-- ---- shutting down

-- the oldest frame that is out comes back, if one is out
abbrev pub TakesNext : {L : Type 0} → Option BackNote → (old new : ContextView L) → Type 0
TakesNext note old new =
    MatchOption note
    ((old.out ≡ 0) × (new ≡ old))
    (λ n. IsBack n old.given old.back new.back × (new.out + 1 ≡ old.out) × (new ≡ record old { out = new.out; back = new.back; link = new.link }))

-- the notes of frames that came back, the oldest first, in three places
abbrev pub notes_of : List RenderedFrame → List (Option BackNote)
notes_of [] = None ∷ None ∷ None ∷ []
notes_of (a ∷ []) = Some (note_of a) ∷ None ∷ None ∷ []
notes_of (a ∷ b ∷ []) = Some (note_of a) ∷ Some (note_of b) ∷ None ∷ []
notes_of (a ∷ b ∷ c ∷ rest) = Some (note_of a) ∷ Some (note_of b) ∷ Some (note_of c) ∷ []

-- all frames that were out came back, in the order in which they were given, and the notes are of them; no encoder is off
pub record Closes {L : Type 0} (old : ContextView L) (given : List Frame) (back : List RenderedFrame) (seat : SeatView) (notes : List (Option BackNote)) : Type 0 where
  pub came : List RenderedFrame
  pub given_is : given ≡ old.given
  pub back_is : back ≡ old.back ++ came
  pub many : length came ≡ (frame_effect true (state_of old) shut_down).backs
  pub unchanged : given ≡ frames_of back
  pub notes_are : notes ≡ notes_of came
  pub none_off : seat.off ≡ []
  pub seat_is : seat ≡ with_gathered seat old.seat
