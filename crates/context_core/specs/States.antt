-- A core as the definitions see it.
use Rattle.std.specs.Prelude.{ℕ, ◌+◌, Bool, false, if◌then◌else◌, List, []}
use Rattle.atomic_table.specs.Seated.{TableId}
use Rattle.gfx_model.specs.FrameCalls.{CallState}
use Rattle.hold_table.specs.Views.{SeatView, first_view}
use Rattle.draw_encoder.specs.declared.items.Recording.{Recording}
use Rattle.resource_book.specs.declared.opening.Start.{Start}
use Rattle.resource_book.specs.Written.{BookView}
use Rattle.resource_book.specs.Opened.{opened}

-- what a frame was made of: what the seat knew then, the numbers that it had gathered among it, and the recordings that were gathered
pub record Gathering : Type 0 where
  pub seat : SeatView
  pub recordings : List Recording

-- the state of the calls without contents and what they wrote in this frame, what the seat knows, how many encoders were begun in this frame, the recordings
-- that were gathered in it, of what the frame that was made last was made, whether this frame was given, how many frames are out, whether no frame follows, and the serial
-- of the first thing
pub record CoreState : Type 0 where
  pub book : BookView
  pub seat : SeatView
  pub begun : ℕ
  pub gathered : List Recording
  pub last : Gathering
  pub is_given : Bool
  pub out : ℕ
  pub is_ended : Bool
  pub first : ℕ

-- a core: the table of its seat, and its state
pub record CoreView : Type 0 where
  pub table : TableId
  pub state : CoreState

-- a core of a table in a state
abbrev pub core_of : TableId → CoreState → CoreView
core_of t s = record { table = t; state = s }

-- how a view has a core's state in it: that state, and the view with another one
pub record HasCore (V : Type 0) : Type 0 where
  pub core : V → CoreState
  pub with_core : CoreState → V → V

-- the state of a core itself
abbrev pub own : HasCore CoreView
own = record { core = λ v. v.state; with_core = λ s v. record v { state = s } }

-- the state of the definition, without contents
abbrev pub state_of : CoreState → CallState
state_of v = record { resources = v.book.resources; encoders = v.begun; out = v.out; is_ended = v.is_ended }

-- the number behind the last frame that was given
abbrev pub frames_end : CoreState → ℕ
frames_end v = if v.is_given then v.book.resources.frame + 1 else v.book.resources.frame

-- nothing is made, begun or out, and no frame was made
abbrev pub opened_core : Start → CoreState
opened_core start = record {
  book = opened start;
  seat = first_view start.frame;
  begun = 0;
  gathered = [];
  last = record { seat = first_view start.frame; recordings = [] };
  is_given = false;
  out = 0;
  is_ended = false;
  first = start.serial;
}
