-- What a pass learns where it runs lines of a block.
use Rattle.std.specs.Prelude.{◌≡◌, Bool, true, ℕ, List, [], Option, Some, None, Result, Ok, Err, IsSome, ⊤}
use Rattle.gfx_model.specs.Words.{Handle}
use Rattle.gfx_model.specs.FrameCalls.{CallState}
use Rattle.gfx_words.specs.Seen.{refusal_seen}
use Rattle.load_text.specs.Loads.{BlockLine}
use Rattle.res_lock.specs.Histories.{LockCall, Reply, made, done, refused, ended, part_of}
use Rattle.res_lock.specs.Called.{Calls, Stays, IsSamePass}
use Rattle.res_lock.specs.Views.{PassView}
use Rattle.res_lock.specs.Seats.{pass_view, caller_of}
use Rattle.res_lock.specs.declared.table.ResPass.{ResPass}
use Rattle.res_lock.specs.declared.entry.LockRefusal.{LockRefusal}
use Rattle.res_lock.specs.declared.entry.LockRefusal.TheVariants as lock_refusals
use Rattle.load_running.specs.BlockCalls.{call_of, things_after, AreCallsOf}

-- ---- answers

-- the refusal stands in the history: it is not want of memory
abbrev pub IsEntered : LockRefusal → Type 0
IsEntered (lock_refusals.Refused r) = IsSome (refusal_seen r)
IsEntered (lock_refusals.Ended frame) = ⊤

-- the reply that the history has of a refusal
abbrev pub refusal_reply : LockRefusal → Reply
refusal_reply (lock_refusals.Refused r) = refused r
refusal_reply (lock_refusals.Ended frame) = ended frame

-- the reply that the history has of a create
abbrev pub create_reply : Result Handle LockRefusal → Reply
create_reply (Ok h) = made h
create_reply (Err refusal) = refusal_reply refusal

-- the answer stands in the history
abbrev pub IsAnswered : {A : Type 0} → Result A LockRefusal → Type 0
IsAnswered (Ok x) = ⊤
IsAnswered (Err refusal) = IsEntered refusal

-- ---- lines

-- a call, where there is one, was answered, and the things are those behind it
abbrev pub RunsCall : CallState → Option LockCall → (Reply → List (Option Handle)) → List (Option Handle) → (old new : ResPass) → Type 0
RunsCall start None behind things old new = (things ≡ behind done) × Stays old new
RunsCall start (Some call) behind things old new = (reply : Reply) × (things ≡ behind reply) × Calls start call reply old new

-- a line was run
abbrev pub RunsLine : CallState → BlockLine → (before after : List (Option Handle)) → (old new : ResPass) → Type 0
RunsLine start line before after old new = RunsCall start (call_of before line) (things_after before line) after old new

-- only what the pass has seen is another
abbrev pub IsSameBut : (old new : PassView) → Type 0
IsSameBut old new = new ≡ record old { seen = new.seen }

-- a block was run by a pass: where it is whole, the pass has seen its calls, and no others of its caller
pub record HasRun (lines : List BlockLine) (is_whole : Bool) (old new : ResPass) : Type 0 where
  pub same : IsSamePass old new
  pub view : IsSameBut (pass_view old) (pass_view new)
  pub calls : is_whole ≡ true → AreCallsOf lines (part_of (caller_of old) (pass_view new).seen)
