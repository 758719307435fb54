-- How the calls are answered, told of any view that has a core's state in it.
use Rattle.std.specs.Prelude.{◌≡◌, ◌+◌, true, List, [], ◌∷◌, Some, None, Result, MatchResult, if◌then◌else◌, not, nat_lt}
use Rattle.std.specs.List.{find}
use Rattle.gfx_model.specs.Words.{Handle, place_of_handle}
use Rattle.gfx_model.specs.World.{Change}
use Rattle.gfx_model.specs.Views.{IsViewCount, view_count}
use Rattle.gfx_model.specs.Recorder.{Room}
use Rattle.gfx_model.specs.Resources.{ResourceCall, destroy, references_of, is_at, refusal_of, effect}
use Rattle.gfx_model.specs.FrameCalls.{begin_encoder, frame_refusal, frame_effect}
use Rattle.gfx_words.specs.declared.refusals.Refusal.{Refusal}
use Rattle.gfx_words.specs.Seen.{IsFirstRefusal}
use Rattle.schedule_model.specs.Machine.{free, dying, place_at}
use Rattle.hold_table.specs.Seats.{enc_table, enc_view}
use Rattle.hold_table.specs.Views.{SeatView, created, placed, lent, fresh}
use Rattle.draw_encoder.specs.Calls.{EncoderView}
use Rattle.resource_book.specs.Written.{after_in}
use Rattle.resource_book.specs.Answered.{IsFirstRefusalOrOutOfMemory}
use Rattle.context_core.specs.declared.begin.Lent.{Lent}
use Rattle.context_core.specs.States.{CoreState, CoreView, HasCore, state_of}

-- where a create makes a thing, the handle's place was free and now has its serial; a uniform that lives keeps its place
abbrev pub IsPlacedBy : List Change → Handle → (old new : SeatView) → Type 0
IsPlacedBy [] h old new = new ≡ old
IsPlacedBy (c ∷ cs) h old new = (place_at old.places (place_of_handle h) ≡ free) × (new ≡ created (place_of_handle h) h.serial old)

-- an accepted call that makes nothing and lets nothing die
abbrev pub updated : ResourceCall → CoreState → CoreState
updated call v = record v { book = after_in call None v.book }

-- an accepted destroy: where the thing dies, its place is dying in the frame
abbrev pub destroyed : Handle → CoreState → CoreState
destroyed h v = record v {
  book = after_in (destroy h) None v.book;
  seat = if not (nat_lt 1 (references_of (find (is_at h.kind h.index) v.book.resources.things))) then placed (place_of_handle h) (dying h.serial v.seat.frame) v.seat else v.seat;
}

-- the next encoder of the frame is begun, and its number is off
abbrev pub with_lent : CoreState → CoreState
with_lent v = record v { seat = lent v.begun v.seat; begun = v.begun + 1 }

module _ {V : Type 0} (at : HasCore V) where
  -- an accepted create gives the definition's handle and has its effect without contents
  pub record Makes (call : ResourceCall) (h : Handle) (old new : V) : Type 0 where
    pub accepted : refusal_of (at.core old).book.resources call ≡ None
    pub made : (effect (at.core old).book.resources call).made ≡ Some h
    pub placed : IsPlacedBy (effect (at.core old).book.resources call).changes h (at.core old).seat (at.core new).seat
    pub after : new ≡ at.with_core (record (at.core old) { book = after_in call (Some h) (at.core old).book; seat = (at.core new).seat }) old

  -- a create; a refused one changes nothing, and memory is wanting only where no test refuses
  abbrev pub Creates : Result Handle Refusal → ResourceCall → (old new : V) → Type 0
  Creates result call old new =
      MatchResult result
      (λ h. Makes call h old new)
      (λ r. IsFirstRefusalOrOutOfMemory (refusal_of (at.core old).book.resources call) r × (new ≡ old))

  -- an update; a refused one changes nothing
  abbrev pub Updates : Result (Unit {0}) Refusal → ResourceCall → (old new : V) → Type 0
  Updates result call old new =
      MatchResult result
      (λ _. (refusal_of (at.core old).book.resources call ≡ None) × (new ≡ at.with_core (updated call (at.core old)) old))
      (λ r. IsFirstRefusalOrOutOfMemory (refusal_of (at.core old).book.resources call) r × (new ≡ old))

  -- the same of a call that takes no memory, and so is refused exactly where the definition says
  abbrev pub Changes : Result (Unit {0}) Refusal → ResourceCall → (old new : V) → Type 0
  Changes result call old new =
      MatchResult result
      (λ _. (refusal_of (at.core old).book.resources call ≡ None) × (new ≡ at.with_core (updated call (at.core old)) old))
      (λ r. IsFirstRefusal (refusal_of (at.core old).book.resources call) r × (new ≡ old))

  -- a destroy takes no memory either
  abbrev pub Destroys : Result (Unit {0}) Refusal → Handle → (old new : V) → Type 0
  Destroys result h old new =
      MatchResult result
      (λ _. (refusal_of (at.core old).book.resources (destroy h) ≡ None) × (new ≡ at.with_core (destroyed h (at.core old)) old))
      (λ r. IsFirstRefusal (refusal_of (at.core old).book.resources (destroy h)) r × (new ≡ old))

  -- an accepted begin: the encoder is the definition's, its seat begins with what this thread knows, and its number is off
  pub record Begins (room : Room) (e : EncoderView) (old new : V) : Type 0 where
    pub accepted : frame_refusal (state_of (at.core old)) (begin_encoder room) ≡ None
    pub made : (frame_effect true (state_of (at.core old)) (begin_encoder room)).made ≡ Some (record { encoder = e.seat.encoder; recorder = e.recorder })
    pub seat : e.seat ≡ fresh (at.core old).begun (at.core old).seat
    pub after : new ≡ at.with_core (with_lent (at.core old)) old
    pub state : state_of (at.core new) ≡ (frame_effect true (state_of (at.core old)) (begin_encoder room)).after

  -- a begin, by the state of what it made; a refused one changes nothing, and memory is wanting only where no test refuses
  abbrev pub IsBegin : {X : Type 0} → (X → EncoderView) → Result X Refusal → Room → (old new : V) → Type 0
  IsBegin made result room old new =
      MatchResult result
      (λ x. Begins room (made x) old new)
      (λ r. IsFirstRefusalOrOutOfMemory (frame_refusal (state_of (at.core old)) (begin_encoder room)) r × (new ≡ old))

-- the seat of the frame's next encoder is lent: it begins with what this thread knows, and its number is off
pub record Lends (room : Room) (l : Lent) (old new : CoreView) : Type 0 where
  pub accepted : frame_refusal (state_of old.state) (begin_encoder room) ≡ None
  pub number : l.number ≡ old.state.begun
  pub frame : l.frame ≡ old.state.book.resources.frame
  pub views : l.views ≡ view_count old.state.book.resources.views
  pub counted : IsViewCount l.views
  pub table : enc_table l.seat ≡ old.table
  pub seat : enc_view l.seat ≡ fresh old.state.begun old.state.seat
  pub after : new ≡ record old { state = with_lent old.state }

-- the seat was lent last, in a state, and neither was used since
pub record IsLentLast (seat : SeatView) (before now : CoreState) : Type 0 where
  pub fresh_still : seat ≡ fresh before.begun before.seat
  pub same_still : now ≡ with_lent before
