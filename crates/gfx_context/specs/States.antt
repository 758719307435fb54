-- A context as the definitions see it.
use Rattle.std.specs.Prelude.{ℕ, Bool, false, List, []}
use Rattle.gfx_model.specs.Resources.{opening}
use Rattle.gfx_model.specs.FrameCalls.{CallState}
use Rattle.hold_table.specs.Views.{SeatView}
use Rattle.draw_encoder.specs.declared.items.Recording.{Recording}
use Rattle.resource_book.specs.Written.{BookView}
use Rattle.frame_record.specs.declared.frame.Frame.{Frame}
use Rattle.frame_record.specs.declared.frame.RenderedFrame.{RenderedFrame}
use Rattle.context_core.specs.States.{CoreState, Gathering, HasCore}
use Rattle.context_core.specs.States as cores

-- the state of the calls without contents and what they wrote in this frame, what the seat knows, how many encoders were begun in this frame, the recordings
-- that were collected in it, of what the frame that was given last was made, how many frames are out, whether the context is ended, the serial of the first
-- thing, the frames that were given and that came back, and the link
pub record ContextView (L : Type 0) : Type 0 where
  pub book : BookView
  pub seat : SeatView
  pub begun : ℕ
  pub gathered : List Recording
  pub last : Gathering
  pub out : ℕ
  pub is_ended : Bool
  pub first : ℕ
  pub given : List Frame
  pub back : List RenderedFrame
  pub link : L

-- the state of its core: between two calls the frame is not given
abbrev pub core_in : {L : Type 0} → ContextView L → CoreState
core_in v = record {
  book = v.book;
  seat = v.seat;
  begun = v.begun;
  gathered = v.gathered;
  last = v.last;
  is_given = false;
  out = v.out;
  is_ended = v.is_ended;
  first = v.first;
}

-- a context of a core, of the frames that were given and that came back, and of a link
abbrev pub context_of : {L : Type 0} → CoreState → List Frame → List RenderedFrame → L → ContextView L
context_of s given back link = record {
  book = s.book;
  seat = s.seat;
  begun = s.begun;
  gathered = s.gathered;
  last = s.last;
  out = s.out;
  is_ended = s.is_ended;
  first = s.first;
  given = given;
  back = back;
  link = link;
}

-- a context has its core's state in it
abbrev pub in_context : {L : Type 0} → HasCore (ContextView L)
in_context = record { core = core_in; with_core = λ s v. context_of s v.given v.back v.link }

-- the state of the definition, without contents
abbrev pub state_of : {L : Type 0} → ContextView L → CallState
state_of v = cores.state_of (core_in v)

-- nothing is made or written
abbrev pub no_book : BookView
no_book = record { resources = opening 0 0 0 0; pre = []; post = []; payloads = [] }

-- what no call on things and views changes: all but the book, and the places and the greatest serial that the seat knows
abbrev pub untouched : {L : Type 0} → ContextView L → ContextView L
untouched v = record v { book = no_book; seat = record v.seat { places = []; greatest = 0 } }
