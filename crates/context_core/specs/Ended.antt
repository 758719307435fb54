-- How bundles are gathered, and how a frame ends.
use Rattle.std.specs.Prelude.{ℕ, ◌≡◌, ◌<◌, ◌≤◌, ◌+◌, Bool, true, false, List, [], ◌∷◌, ◌++◌, map, length, vec_capacity, Option, Some, None, Result, MatchResult, MatchOption}
use Rattle.gfx_model.specs.Frames.{collected}
use Rattle.gfx_model.specs.Resources as model
use Rattle.gfx_model.specs.FrameCalls.{end_frame, frame_refusal}
use Rattle.schedule_model.specs.Held.{count_of}
use Rattle.hold_table.specs.Views.{SeatView, once_between, advanced, joined_with}
use Rattle.cmd_buffer.specs.Payloads.{payloads_seen}
use Rattle.resource_book.specs.Written.{BookView}
use Rattle.resource_book.specs.Works.{IsWork, with_nothing_written}
use Rattle.resource_book.specs.declared.frames.Work.{Work}
use Rattle.draw_encoder.specs.declared.items.Recording.{Recording}
use Rattle.frame_record.specs.declared.frame.Frame.{Frame}
use Rattle.frame_record.specs.Kept.{numbers_in}
use Rattle.frame_record.specs.Seen.{entry_seen, recordings_seen}
use Rattle.context_core.specs.declared.ending.Prepared.{Prepared}
use Rattle.context_core.specs.declared.ending.NotReady.{NotReady}
use Rattle.context_core.specs.declared.ending.NotReady.TheVariants as causes
use Rattle.context_core.specs.States.{CoreState, CoreView, Gathering, state_of}

-- ---- gathering

-- the encoder was off and is so no longer, its numbers are gathered, and its recording is kept
pub record Gathers (r : Recording) (seat : SeatView) (old new : CoreView) : Type 0 where
  pub was_off : count_of seat.encoder old.state.seat.off ≡ 1
  pub fewer : length new.state.seat.off + 1 ≡ length old.state.seat.off
  pub after : new ≡ record old { state = record old.state { seat = joined_with old.state.seat seat; gathered = old.state.gathered ++ r ∷ [] } }

-- ---- the end of a frame is prepared

-- what the end of a frame needs memory for: what was written, and the journal of what was gathered twice
pub record IsPrepared (b : BookView) (gathered : List Recording) (p : Prepared) : Type 0 where
  pub work : IsWork b p.work
  pub journal : map entry_seen p.journal.items ≡ collected (recordings_seen gathered)
  pub told : map entry_seen p.told.items ≡ collected (recordings_seen gathered)
  pub room : (p.room.items ≡ []) × (8 ≤ vec_capacity p.room)

-- all is ready: no encoder is off, and the definition does not refuse. What was written is taken
pub record IsReady (p : Prepared) (old new : CoreView) : Type 0 where
  pub none_off : old.state.seat.off ≡ []
  pub accepted : frame_refusal (state_of old.state) end_frame ≡ None
  pub prepared : IsPrepared old.state.book old.state.gathered p
  pub after : new ≡ record old { state = record old.state { book = with_nothing_written old.state.book } }

-- why it is not: an encoder is off; then the definition refuses; then memory is wanting. Nothing changed
abbrev pub IsNotReady : NotReady → (old new : CoreView) → Type 0
IsNotReady causes.EncodersOff old new = (0 < length old.state.seat.off) × (new ≡ old)
IsNotReady causes.FramesSpent old new = (old.state.seat.off ≡ []) × (frame_refusal (state_of old.state) end_frame ≡ Some model.frames_spent) × (new ≡ old)
IsNotReady causes.OutOfMemory old new = (old.state.seat.off ≡ []) × (frame_refusal (state_of old.state) end_frame ≡ None) × (new ≡ old)

-- the end of a frame is prepared, or not
abbrev pub Prepares : Result Prepared NotReady → (old new : CoreView) → Type 0
Prepares result old new = MatchResult result (λ p. IsReady p old new) (λ cause. IsNotReady cause old new)

-- ---- a frame ends

-- a frame is what was written, the views, what was recorded with its journal, and the frame's number
pub record IsFrameOf (b : BookView) (gathered : List Recording) (f : Frame) : Type 0 where
  pub number : f.number ≡ b.resources.frame
  pub views : f.views ≡ b.resources.views
  pub pre : f.pre ≡ b.pre
  pub post : f.post ≡ b.post
  pub payloads : payloads_seen f.payloads.items ≡ b.payloads
  pub recordings : f.recordings.items ≡ gathered
  pub journal : map entry_seen f.journal.items ≡ collected (recordings_seen gathered)

-- the numbers are those from a frame's first to below the next one's, each once
pub record AreNumbered (base next : ℕ) (numbers : List ℕ) : Type 0 where
  pub once : (n : ℕ) → count_of n numbers ≡ once_between base next n
  pub counted : base + length numbers ≡ next

-- the state of the calls with work written in it
abbrev pub with_work : Work → BookView → BookView
with_work w b = record b { pre = w.pre; post = w.post; payloads = payloads_seen w.payloads.items }

-- the state of the calls at the start of the next frame
abbrev pub started : BookView → BookView
started b = record { resources = model.start_frame (b.resources.frame + 1) b.resources; pre = []; post = []; payloads = [] }

-- what a frame that is made now is made of
abbrev pub gathering_of : CoreState → Gathering
gathering_of s = record { seat = s.seat; recordings = s.gathered }

-- a frame of the work and of what was gathered is made, and is given and out from then on; its numbers are those that the seat gathered
pub record MakesFrame (work : Work) (f : Frame) (old new : CoreView) : Type 0 where
  pub is_of : IsFrameOf (with_work work old.state.book) old.state.gathered f
  pub numbers : old.state.seat.numbers ≡ numbers_in old.state.gathered
  pub same : new ≡ record old { state = record old.state { gathered = []; last = gathering_of old.state; is_given = true; out = old.state.out + 1 } }

-- the frame after the one that was given starts, with none of its encoders begun
pub record StartsNext (old new : CoreView) : Type 0 where
  pub numbered : AreNumbered old.state.seat.base new.state.seat.base old.state.seat.numbers
  pub seat : new.state.seat ≡ record (advanced new.state.seat.base old.state.seat) { places = new.state.seat.places }
  pub same : new ≡ record old {
    state = record old.state {
      book = record old.state.book { resources = model.start_frame (old.state.book.resources.frame + 1) old.state.book.resources };
      seat = new.state.seat;
      begun = 0;
      is_given = false;
    };
  }

-- both together: a frame of the work and of what was gathered is made and is out, and the next one starts with nothing written, begun or gathered
pub record Gives (work : Work) (f : Frame) (old new : CoreView) : Type 0 where
  pub is_of : IsFrameOf (with_work work old.state.book) old.state.gathered f
  pub numbers : old.state.seat.numbers ≡ numbers_in old.state.gathered
  pub numbered : AreNumbered old.state.seat.base new.state.seat.base (numbers_in old.state.gathered)
  pub seat : new.state.seat ≡ record (advanced new.state.seat.base old.state.seat) { places = new.state.seat.places }
  pub same : new ≡ record old {
    state = record old.state {
      book = started old.state.book;
      seat = new.state.seat;
      begun = 0;
      gathered = [];
      last = gathering_of old.state;
      is_given = false;
      out = old.state.out + 1;
    };
  }

-- the state with no frame to follow
abbrev pub ended_core : CoreView → CoreView
ended_core v = record v { state = record v.state { is_ended = true } }

-- a frame is made exactly where the one that came back was shown; else no frame follows
abbrev pub Finishes : Bool → Work → Option Frame → (old new : CoreView) → Type 0
Finishes is_shown work frame old new =
    MatchOption frame
    ((is_shown ≡ false) × (new ≡ ended_core old))
    (λ f. (is_shown ≡ true) × MakesFrame work f old new)
