-- What the loop over frames keeps and leaves.
use Rattle.std.specs.Prelude.{◌≡◌, ℕ, ◌+◌, Bool, true, false, List, Option, Some, None}
use Rattle.gfx.specs.Frames.{Frame, Outcome, RenderedFrame, frames_of}
use Rattle.gfx.specs.Pictures.{first_outcome, outcome_then}
use Rattle.gfx.specs.Calls.{ContextView, BackNote}
use Rattle.ring_turning.specs.Frames.{AreFirst, IsTurn}

-- encoders were begun, and nothing else changed but what the seat knows
pub record HasBegun {L : Type 0} (old new : ContextView L) : Type 0 where
  pub frame : new.seat.frame ≡ old.seat.frame
  pub same : new ≡ record old { seat = new.seat; begun = new.begun }

-- the context is at the start of frame n of a turn: it goes on, no encoder was begun, and the frames before were given
pub record IsAt {L : Type 0} (n : ℕ) (c : ContextView L) : Type 0 where
  pub frame : c.seat.frame ≡ n
  pub running : c.is_ended ≡ false
  pub none_begun : c.begun ≡ 0
  pub given : IsTurn n c.given

-- the outcome of the first frame that was not shown, when one more came back, or none
abbrev pub first_after : Outcome → Option BackNote → Outcome
first_after first None = first
first_after first (Some n) = outcome_then first n.outcome

-- frame n ended, and another came back, or none; where the turn goes on, the context is at the start of the next frame
pub record HasTurned {L : Type 0} (back : Option BackNote) (goes_on : Bool) (n : ℕ) (old new : ContextView L) : Type 0 where
  pub given : AreFirst (n + 1) new.given
  pub next : goes_on ≡ true → IsAt (n + 1) new
  pub outcome : first_outcome new.back ≡ first_after (first_outcome old.back) back

-- the frames that were given are the first of a turn, and where it is whole they are all of it
pub record AreOfTurn (many : ℕ) (given : List Frame) (is_whole : Bool) : Type 0 where
  pub first : AreFirst many given
  pub whole : is_whole ≡ true → IsTurn many given

-- the same when all that were given came back, with the outcome of the first that was not shown
pub record HaveTurned (many : ℕ) (given : List Frame) (back : List RenderedFrame) (outcome : Outcome) (is_whole : Bool) : Type 0 where
  pub of_turn : AreOfTurn many given is_whole
  pub all_back : given ≡ frames_of back
  pub outcome_is : outcome ≡ first_outcome back
