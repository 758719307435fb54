-- Rows of the calls that begin encoders, end frames and shut down.
use Rattle.std.proofs.Common.{◌≡◌, ℕ, true, false, Option, Some, None, refl}
use Rattle.gfx_model.specs.Resources.{Refusal, bad_size, no_encoder, frames_spent, opening}
use Rattle.gfx_model.specs.Recorder.{Room}
use Rattle.gfx_model.specs.FrameCalls.{CallState, opened, begin_encoder, end_frame, shut_down, frame_refusal, frame_effect}

abbrev room : ℕ → ℕ → ℕ → Room
room items bytes uniforms = record { items = items; bytes = bytes; uniforms = uniforms }

abbrev start : ℕ → CallState
start latency = opened (opening 1 latency 0 1)

abbrev begun_already : ℕ → CallState
begun_already n = record (start 1) { encoders = n }

abbrev at_frame : ℕ → CallState
at_frame n = opened (opening 1 1 n 1)

abbrev refused : CallState → Room → Option Refusal
refused s r = frame_refusal s (begin_encoder r)

-- the least and the greatest room, and one past each limit
rooms : (refused (start 1) (room 1 0 0) ≡ None) × (refused (start 1) (room 8191 1048576 8191) ≡ None)
    × (refused (start 1) (room 0 0 0) ≡ Some bad_size) × (refused (start 1) (room 8192 0 0) ≡ Some bad_size)
    × (refused (start 1) (room 1 1048577 0) ≡ Some bad_size) × (refused (start 1) (room 1 0 8192) ≡ Some bad_size)
rooms = (refl, refl, refl, refl, refl, refl)

-- the eighth encoder and no ninth; a room out of its limits is refused first
encoders : (refused (begun_already 7) (room 1 0 0) ≡ None) × (refused (begun_already 8) (room 1 0 0) ≡ Some no_encoder) × (refused (begun_already 8) (room 0 0 0) ≡ Some bad_size)
encoders = (refl, refl, refl)

-- the frame of the greatest number cannot be ended, the one before can
frames : (frame_refusal (at_frame 1073741822) end_frame ≡ None) × (frame_refusal (at_frame 1073741823) end_frame ≡ Some frames_spent) × (frame_refusal (at_frame 1073741823) shut_down ≡ None)
frames = (refl, refl, refl)

-- the next frame has the next number and no encoders, and a refused end begins none
abbrev next_state : CallState → CallState
next_state s = (frame_effect true s end_frame).after

next : ((next_state (begun_already 3)).encoders ≡ 0) × ((next_state (begun_already 3)).resources.frame ≡ 1)
next = (refl, refl)

-- one frame may be out: each end but the first takes one back; of two, the third does; shutting down takes back the rest
out : ((frame_effect true (start 1) end_frame).backs ≡ 0) × ((frame_effect true (next_state (start 1)) end_frame).backs ≡ 1)
    × ((frame_effect true (next_state (start 2)) end_frame).backs ≡ 0) × ((frame_effect true (next_state (next_state (start 2))) end_frame).backs ≡ 1)
    × ((frame_effect true (next_state (next_state (next_state (start 2)))) shut_down).backs ≡ 2) × ((frame_effect true (start 3) shut_down).backs ≡ 0)
out = (refl, refl, refl, refl, refl, refl)

-- a frame that came back and was not shown: the frame is not given, no number is spent, and nothing follows; where none comes back it is given
not_shown : ((frame_effect false (next_state (start 1)) end_frame).gives ≡ false) × ((frame_effect false (next_state (start 1)) end_frame).after.out ≡ 0)
    × ((frame_effect false (next_state (start 1)) end_frame).after.resources.frame ≡ 1) × ((frame_effect false (next_state (start 1)) end_frame).after.is_ended ≡ true)
    × ((frame_effect false (start 1) end_frame).gives ≡ true) × ((frame_effect true (next_state (start 1)) end_frame).gives ≡ true)
not_shown = (refl, refl, refl, refl, refl, refl)
