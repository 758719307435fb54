-- Histories of the calls of several threads on one context, and which of them are legal.
use Rattle.std.specs.Prelude.{◌≡◌, ◌⊎◌, ℕ, ◌==◌, Bool, true, false, List, [], ◌∷◌, length, map, filter, Option, Some, None, ⊤}
use Rattle.std.specs.List.{range_with_len}
use Rattle.gfx_model.specs.Words.{Handle}
use Rattle.gfx_model.specs.Recorder.{Room}
use Rattle.gfx_model.specs.Resources.{ResourceCall, refusal_of, effect}
use Rattle.gfx_model.specs.Resources as model_calls
use Rattle.gfx_model.specs.FrameCalls as model_frames
use Rattle.gfx_model.specs.FrameCalls.{CallState, begin_encoder, end_frame, frame_refusal, frame_effect}
use Rattle.gfx_words.specs.declared.refusals.Refusal.{Refusal}
use Rattle.gfx_words.specs.Seen.{refusal_seen}
use Rattle.frame_record.specs.declared.frame.Outcome.{Outcome}
use Rattle.gfx_context.specs.Ended.{is_shown_outcome}

-- ---- entries

-- a call through the lock: one on things and views, the end of a frame, or the beginning of an encoder
pub data LockCall : Type 0 where
  on_things : ResourceCall → LockCall
  ends_frame : LockCall
  begins : Room → LockCall

-- how a call was answered: a thing was made; nothing is told; the frame of a number was given; an encoder of a number begins; it was refused; the frame of
-- a number was not given, by the outcome of a frame that came back; or an earlier frame, of this number, was not given
pub data Reply : Type 0 where
  made : Handle → Reply
  done : Reply
  given : (number : ℕ) → Reply
  begun : (number : ℕ) → Reply
  refused : Refusal → Reply
  ending : (frame : ℕ) → Outcome → Reply
  ended : (frame : ℕ) → Reply

-- a call of a caller, its ordinal among the caller's calls, and how it was answered
pub record LockEntry : Type 0 where
  pub caller : ℕ
  pub ordinal : ℕ
  pub call : LockCall
  pub reply : Reply

-- ---- the definition's answers

-- what an accepted call on things and views tells
abbrev pub told_of : Option Handle → Reply
told_of (Some h) = made h
told_of None = done

-- the reply is the refusal of the definition
abbrev pub IsRefusal : model_calls.Refusal → Reply → Type 0
IsRefusal x reply = (r : Refusal) × (reply ≡ refused r) × (refusal_seen r ≡ Some x)

-- the reply is the refusal, where there is one, and else what an accepted call tells
abbrev pub IsToldOrRefused : Option model_calls.Refusal → (told reply : Reply) → Type 0
IsToldOrRefused None told reply = reply ≡ told
IsToldOrRefused (Some x) told reply = IsRefusal x reply

-- a frame is not given: its number is told, with an outcome that is not of a frame that was shown
abbrev pub IsEnding : ℕ → Reply → Type 0
IsEnding number reply = (outcome : Outcome) × (reply ≡ ending number outcome) × (is_shown_outcome outcome ≡ false)

-- a frame that is not refused is given, or it is not
abbrev pub IsFrameReply : Option model_calls.Refusal → ℕ → Reply → Type 0
IsFrameReply (Some x) number reply = IsRefusal x reply
IsFrameReply None number reply = (reply ≡ given number) ⊎ IsEnding number reply

-- the reply of a running context is the definition's in the state of its calls
abbrev pub IsRunningReply : CallState → LockCall → Reply → Type 0
IsRunningReply s (on_things c) reply = IsToldOrRefused (refusal_of s.resources c) (told_of (effect s.resources c).made) reply
IsRunningReply s ends_frame reply = IsFrameReply (frame_refusal s end_frame) s.resources.frame reply
IsRunningReply s (begins room) reply = IsToldOrRefused (frame_refusal s (begin_encoder room)) (begun s.encoders) reply

-- after a frame that was not given each reply names that frame, which is the last one that started
abbrev pub IsReplyWhere : (is_ended : Bool) → CallState → LockCall → Reply → Type 0
IsReplyWhere true s call reply = reply ≡ ended s.resources.frame
IsReplyWhere false s call reply = IsRunningReply s call reply

-- the reply to a call in a state
abbrev pub IsReply : CallState → LockCall → Reply → Type 0
IsReply s call reply = IsReplyWhere s.is_ended s call reply

-- the state after an accepted call
abbrev pub accepted : CallState → LockCall → CallState
accepted s (on_things c) = record s { resources = (effect s.resources c).after }
accepted s ends_frame = model_frames.given s
accepted s (begins room) = (frame_effect true s (begin_encoder room)).after

-- the state after a call that was answered so: what is refused changes nothing
abbrev pub after_reply : CallState → LockCall → Reply → CallState
after_reply s call (refused r) = s
after_reply s call (ended number) = s
after_reply s call (ending number outcome) = model_frames.ended s
after_reply s call _ = accepted s call

-- the state after an entry
abbrev pub after_entry : CallState → LockEntry → CallState
after_entry s e = after_reply s e.call e.reply

-- the state after a history
abbrev pub state_after : CallState → List LockEntry → CallState
state_after s [] = s
state_after s (e ∷ es) = state_after (after_entry s e) es

-- each reply is the definition's in the state after the entries before it
abbrev pub HasReplies : CallState → List LockEntry → Type 0
HasReplies s [] = ⊤
HasReplies s (e ∷ es) = IsReply s e.call e.reply × HasReplies (after_entry s e) es

-- ---- callers

-- a caller's part of a history: its entries, in their order
abbrev pub part_of : ℕ → List LockEntry → List LockEntry
part_of caller es = filter (λ e. e.caller == caller) es

-- the entries have the ordinals 0, 1, 2 and so on
abbrev pub AreInOrder : List LockEntry → Type 0
AreInOrder es = map (λ e. e.ordinal) es ≡ range_with_len 0 (length es)

-- a history that is legal from a state: each reply is the definition's, and each caller's calls are in their order
pub record IsLegal (start : CallState) (es : List LockEntry) : Type 0 where
  pub replies : HasReplies start es
  pub ordered : (caller : ℕ) → AreInOrder (part_of caller es)

-- an entry of no thread
abbrev pub no_entry : LockEntry
no_entry = record { caller = 0; ordinal = 0; call = ends_frame; reply = done }
