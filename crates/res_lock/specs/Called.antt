-- How the calls through the lock are answered.
use Rattle.std.specs.Prelude.{◌≡◌, ℕ, ◌+◌, Bool, true, false, List, [], ◌∷◌, ◌++◌, Option, Some, None, Result, Ok, Err, MatchResult, MatchOption, ⊤}
use Rattle.gfx_model.specs.Words.{Handle}
use Rattle.gfx_model.specs.Recorder.{Room}
use Rattle.gfx_model.specs.Resources as model
use Rattle.gfx_model.specs.Resources.{ResourceCall, refusal_of, effect}
use Rattle.gfx_model.specs.FrameCalls.{CallState, begin_encoder, frame_effect}
use Rattle.gfx_words.specs.declared.refusals.Refusal.{Refusal}
use Rattle.gfx_words.specs.Seen.{refusal_seen}
use Rattle.hold_table.specs.Views.{SeatView, fresh}
use Rattle.draw_encoder.specs.Calls.{EncoderView}
use Rattle.resource_laws.specs.Bare.{bare_of}
use Rattle.resource_book.specs.Written.{after_in}
use Rattle.gfx_context.specs.States.{ContextView, state_of}
use Rattle.gfx_context.specs.Kept.{IsTied}
use Rattle.gfx_context.specs.declared.report.BackNote.{BackNote}
use Rattle.gfx_context.specs.declared.report.FrameReport.{FrameReport}
use Rattle.res_lock.specs.Histories.{LockCall, on_things, ends_frame, begins, Reply, made, done, given, begun, refused, ending, ended, LockEntry, state_after, part_of, IsLegal}
use Rattle.res_lock.specs.Views.{GoesOn}
use Rattle.res_lock.specs.Seats.{pass_table, pass_view, caller_of, made_by}
use Rattle.res_lock.specs.declared.table.ResPass.{ResPass}
use Rattle.res_lock.specs.declared.entry.LockRefusal.{LockRefusal}
use Rattle.res_lock.specs.declared.entry.LockRefusal.TheVariants as lock_refusals

-- ---- what the context does

-- an accepted call on things and views has the definition's effect without contents, and writes what the definition says
pub record Does {L : Type 0} (call : ResourceCall) (handle : Option Handle) (old new : ContextView L) : Type 0 where
  pub accepted : refusal_of old.book.resources call ≡ None
  pub made_is : (effect old.book.resources call).made ≡ handle
  pub state : state_of new ≡ record (state_of old) { resources = bare_of (effect old.book.resources call).after }
  pub book : new.book ≡ after_in call handle old.book
  pub given_same : new.given ≡ old.given

-- a refusal is the definition's; memory may be wanting at any call
abbrev pub IsRefusalOrOutOfMemory : Option model.Refusal → Refusal → Type 0
IsRefusalOrOutOfMemory first r = MatchOption (refusal_seen r) ⊤ (λ x. first ≡ Some x)

-- a create of the context; a refused one changes nothing
abbrev pub CreatesBy : {L : Type 0} → LockCall → Result Handle Refusal → (old new : ContextView L) → Type 0
CreatesBy (on_things call) result old new =
    MatchResult result
    (λ h. Does call (Some h) old new)
    (λ r. IsRefusalOrOutOfMemory (refusal_of old.book.resources call) r × (new ≡ old))
CreatesBy _ result old new = ⊥

-- a call of the context that makes nothing; a refused one changes nothing
abbrev pub ChangesBy : {L : Type 0} → LockCall → Result (Unit {0}) Refusal → (old new : ContextView L) → Type 0
ChangesBy (on_things call) result old new =
    MatchResult result
    (λ _. Does call None old new)
    (λ r. IsRefusalOrOutOfMemory (refusal_of old.book.resources call) r × (new ≡ old))
ChangesBy _ result old new = ⊥

-- the calls that make things
abbrev pub IsCreate : LockCall → Type 0
IsCreate (on_things (model.create_layout layout)) = ⊤
IsCreate (on_things (model.create_vertex_buffer layout bytes)) = ⊤
IsCreate (on_things (model.create_index_buffer bytes)) = ⊤
IsCreate (on_things (model.create_texture width height format is_destination source)) = ⊤
IsCreate (on_things (model.create_frame_buffer color depth)) = ⊤
IsCreate (on_things (model.create_program kind)) = ⊤
IsCreate (on_things (model.create_uniform name kind)) = ⊤
IsCreate _ = ⊥

-- the calls that change things or views, or let things die
abbrev pub IsChange : LockCall → Type 0
IsChange (on_things (model.update_buffer buffer offset bytes)) = ⊤
IsChange (on_things (model.update_texture texture rect bytes)) = ⊤
IsChange (on_things (model.destroy thing)) = ⊤
IsChange (on_things (model.change_view view c)) = ⊤
IsChange (on_things (model.set_view_target view target)) = ⊤
IsChange (on_things (model.set_view_order ids)) = ⊤
IsChange _ = ⊥

-- ---- what a pass learns

-- the entry of a call of a pass
abbrev pub entry_of : LockCall → Reply → ResPass → LockEntry
entry_of call reply p = record { caller = caller_of p; ordinal = made_by p; call = call; reply = reply }

-- a call more: the history that the pass has seen is legal, goes on from what it had seen with no call of the pass, and ends with this call, so that the
-- caller's part of it has just this call more
pub record Calls (start : CallState) (call : LockCall) (reply : Reply) (old new : ResPass) : Type 0 where
  pub before : List LockEntry
  pub on : GoesOn (pass_view old).callers (pass_view old).seen before
  pub view : pass_view new ≡ record (pass_view old) { seen = before ++ entry_of call reply old ∷ [] }
  pub made : made_by new ≡ made_by old + 1
  pub legal : IsLegal start (pass_view new).seen
  pub part : part_of (caller_of old) (pass_view new).seen ≡ part_of (caller_of old) (pass_view old).seen ++ entry_of call reply old ∷ []

-- no entry was made
pub record Stays (old new : ResPass) : Type 0 where
  pub view : pass_view new ≡ pass_view old
  pub made : made_by new ≡ made_by old

-- the pass is of the same caller and table, and no pass was split from it or joined into it
pub record IsSamePass (old new : ResPass) : Type 0 where
  pub caller : caller_of new ≡ caller_of old
  pub table : pass_table new ≡ pass_table old
  pub callers : (pass_view new).callers ≡ (pass_view old).callers
  pub next : (pass_view new).next ≡ (pass_view old).next

-- a refused call has an entry, except where there was no memory
abbrev pub IsRefusedBy : CallState → LockCall → LockRefusal → (old new : ResPass) → Type 0
IsRefusedBy start call (lock_refusals.Refused r) old new = MatchOption (refusal_seen r) (Stays old new) (λ x. Calls start call (refused r) old new)
IsRefusedBy start call (lock_refusals.Ended frame) old new = Calls start call (ended frame) old new

-- a create through the lock
abbrev pub IsCreated : CallState → LockCall → Result Handle LockRefusal → (old new : ResPass) → Type 0
IsCreated start call result old new = MatchResult result (λ h. Calls start call (made h) old new) (λ r. IsRefusedBy start call r old new)

-- a call through the lock that gives nothing
abbrev pub IsChanged : CallState → LockCall → Result (Unit {0}) LockRefusal → (old new : ResPass) → Type 0
IsChanged start call result old new = MatchResult result (λ _. Calls start call done old new) (λ r. IsRefusedBy start call r old new)

-- how the end of a frame is told: a frame that was not given is told with the outcome of the frame that came back
abbrev pub reply_of : (given : Bool) → (number : ℕ) → Option BackNote → Reply
reply_of true number back = given number
reply_of false number None = given number
reply_of false number (Some note) = ending number note.outcome

-- the end of a frame through the lock
abbrev pub IsFramed : CallState → Result FrameReport LockRefusal → (old new : ResPass) → Type 0
IsFramed start result old new = MatchResult result (λ report. Calls start ends_frame (reply_of report.given report.number report.back) old new) (λ r. IsRefusedBy start ends_frame r old new)

-- an encoder that begins through the lock is the definition's after the history before; its seat is one of that frame, knows the places of the things
-- that the history before has, and has drawn and asked nothing
pub record Begins (start : CallState) (room : Room) (e : EncoderView) (old new : ResPass) : Type 0 where
  pub calls : Calls start (begins room) (begun e.seat.encoder) old new
  pub encoder : (frame_effect true (state_after start calls.before) (begin_encoder room)).made ≡ Some (record { encoder = e.seat.encoder; recorder = e.recorder })
  pub frame : e.seat.frame ≡ (state_after start calls.before).resources.frame
  pub seat : (v : SeatView) × (e.seat ≡ fresh e.seat.encoder v) × IsTied (bare_of (state_after start calls.before).resources) v

-- a begin through the lock
abbrev pub IsBegun : CallState → Room → Result EncoderView LockRefusal → (old new : ResPass) → Type 0
IsBegun start room result old new = MatchResult result (λ e. Begins start room e old new) (λ r. IsRefusedBy start (begins room) r old new)
