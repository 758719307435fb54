-- The calls that begin encoders, end frames and shut down: refusals and effects.
use Rattle.std.specs.Prelude.{ℕ, ◌≤◌, ◌+◌, ◌-◌, Bool, true, false, not, ◌&&◌, ◌||◌, ◌==◌, nat_le, if◌then◌else◌, List, [], ◌∷◌, Option, Some, None}
use Rattle.gfx_model.specs.Views.{view_count}
use Rattle.gfx_model.specs.Resources.{Resources, Refusal, bad_size, no_encoder, frames_spent, first_refusal, start_frame}
use Rattle.gfx_model.specs.Recorder.{Room, Recorder, begun}

-- ---- limits

-- how many items, transient bytes and uniform values an encoder can have room for
abbrev pub most_items : ℕ
most_items = 8191

-- how many transient bytes
abbrev pub most_bytes : ℕ
most_bytes = 1048576

-- how many uniform values
abbrev pub most_uniforms : ℕ
most_uniforms = 8191

-- how many encoders a frame can have
abbrev pub most_encoders : ℕ
most_encoders = 8

-- the greatest number of a frame
abbrev pub greatest_frame : ℕ
greatest_frame = 1073741823

-- a room of at least one item, and within the limits
abbrev pub IsRoom : Room → Type 0
IsRoom room = (1 ≤ room.items) × (room.items ≤ most_items) × (room.bytes ≤ most_bytes) × (room.uniforms ≤ most_uniforms)

-- the same as a test
abbrev pub is_room : Room → Bool
is_room room = nat_le 1 room.items && nat_le room.items most_items && nat_le room.bytes most_bytes && nat_le room.uniforms most_uniforms

-- ---- calls

-- the state of the calls on things and views, how many encoders were begun in its frame, how many frames were given and are not back, and whether a
-- frame was not given, after which nothing follows but shutting down
pub record CallState : Type 0 where
  pub resources : Resources
  pub encoders : ℕ
  pub out : ℕ
  pub is_ended : Bool

-- nothing is begun, and no frame is out
abbrev pub opened : Resources → CallState
opened r = record { resources = r; encoders = 0; out = 0; is_ended = false }

-- a call of the API thread about its frames
pub data FrameCall : Type 0 where
  begin_encoder : Room → FrameCall
  end_frame : FrameCall
  shut_down : FrameCall

-- what a call is refused for, in the order in which it is tested
abbrev pub frame_refusals : CallState → FrameCall → List (Bool × Refusal)
frame_refusals s (begin_encoder room) = (not (is_room room), bad_size) ∷ (nat_le most_encoders s.encoders, no_encoder) ∷ []
frame_refusals s end_frame = (nat_le greatest_frame s.resources.frame, frames_spent) ∷ []
frame_refusals s shut_down = []

-- the first refusal of a call whose test holds
abbrev pub frame_refusal : CallState → FrameCall → Option Refusal
frame_refusal s c = first_refusal (frame_refusals s c)

-- an encoder's number, and its state at its beginning
pub record Begun : Type 0 where
  pub encoder : ℕ
  pub recorder : Recorder

-- the state after, the encoder that a call begins, how many frames it takes back, and whether it gives its frame
pub record FrameEffect : Type 0 where
  pub after : CallState
  pub made : Option Begun
  pub backs : ℕ
  pub gives : Bool

-- the end of a frame first takes back the oldest frame that is out, where as many are out as may be
abbrev pub backs_at_end : CallState → ℕ
backs_at_end s = if s.out == s.resources.latency then 1 else 0

-- the end of a frame gives it, unless the frame that it takes back was not shown
abbrev pub is_given : Bool → CallState → Bool
is_given is_shown s = (backs_at_end s == 0) || is_shown

-- the frame is given, and the next one starts
abbrev pub given : CallState → CallState
given s = record s { resources = start_frame (s.resources.frame + 1) s.resources; encoders = 0; out = s.out + 1 - backs_at_end s }

-- the frame is not given, and none starts
abbrev pub ended : CallState → CallState
ended s = record s { out = s.out - backs_at_end s; is_ended = true }

-- an encoder has the next number of its frame; the end of a frame gives it, or not, by whether the frame that comes back was shown; shutting down
-- takes back all that is out
abbrev pub frame_effect : Bool → CallState → FrameCall → FrameEffect
frame_effect is_shown s (begin_encoder room) = record {
  after = record s { encoders = s.encoders + 1 };
  made = Some (record { encoder = s.encoders; recorder = begun s.resources.frame (view_count s.resources.views) room });
  backs = 0;
  gives = false;
}
frame_effect is_shown s end_frame = record {
  after = if is_given is_shown s then given s else ended s;
  made = None;
  backs = backs_at_end s;
  gives = is_given is_shown s;
}
frame_effect is_shown s shut_down = record { after = record s { out = 0 }; made = None; backs = s.out; gives = false }
