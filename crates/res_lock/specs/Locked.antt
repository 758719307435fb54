-- What lies behind the lock.
use Rattle.std.specs.Prelude.{ℕ, ◌≡◌, true, false, ◌<◌, ◌+◌, List, [], ◌∷◌, ◌++◌, Option, Some, None, Ok, vec_len, vec_capacity}
use Rattle.atomic_table.specs.Seated.{TableId}
use Rattle.gfx_model.specs.World.{Item}
use Rattle.gfx_model.specs.FrameCalls.{CallState}
use Rattle.resource_laws.specs.Bare.{bare_of}
use Rattle.resource_book.specs.Written.{BookView}
use Rattle.frame_record.specs.declared.frame.Outcome.{Outcome}
use Rattle.frame_record.specs.declared.frame.RenderedFrame.{RenderedFrame}
use Rattle.gfx_context.specs.States.{ContextView, state_of}
use Rattle.gfx_context.specs.Kept.{IsContext}
use Rattle.gfx_context.specs.Ended.{CollectsAndEnds}
use Rattle.gfx_context.specs.declared.report.FrameReport.{FrameReport}
use Rattle.res_lock.specs.Histories.{LockCall, Reply, ending, LockEntry, after_entry, state_after, IsLegal}
use Rattle.res_lock.specs.Written.{book_after}
use Rattle.res_lock.specs.Seen.{entries_seen}
use Rattle.res_lock.specs.Views.{GoesOn}
use Rattle.res_lock.specs.Seats.{pen_table, pass_view, made_by}
use Rattle.res_lock.specs.Called.{entry_of, IsSamePass}
use Rattle.res_lock.specs.declared.table.ResPass.{ResPass}
use Rattle.res_lock.specs.declared.log.Log.{Log}

-- the entries of a log
abbrev pub log_entries : Log → List LockEntry
log_entries l = entries_seen l.history.items

-- the table of a log
abbrev pub table_of_log : Log → TableId
table_of_log l = pen_table l.pen

-- a log has room for an entry
abbrev pub HasRoom : Log → Type 0
HasRoom l = vec_len l.history < vec_capacity l.history

-- an entry of a pass is appended: the history has gone on from what the pass had seen, with no call of the pass, and the pass has seen it
pub record Adds (call : LockCall) (reply : Reply) (old new : Log) (p q : ResPass) : Type 0 where
  pub entries : log_entries new ≡ log_entries old ++ entry_of call reply p ∷ []
  pub table : table_of_log new ≡ table_of_log old
  pub on : GoesOn (pass_view p).callers (pass_view p).seen (log_entries old)
  pub view : pass_view q ≡ record (pass_view p) { seen = log_entries new }
  pub made : made_by q ≡ made_by p + 1
  pub same : IsSamePass p q

-- a context, and the history of its calls
pub record LockView (L : Type 0) : Type 0 where
  pub context : ContextView L
  pub history : List LockEntry

-- nothing is made, no encoder is begun, and the context is not ended
pub record IsOpening (s : CallState) : Type 0 where
  pub nothing : s.resources.things ≡ []
  pub none_begun : s.encoders ≡ 0
  pub runs : s.is_ended ≡ false

-- a state of the calls without contents
abbrev pub bared : CallState → CallState
bared s = record s { resources = bare_of s.resources }

-- ---- how a context was ended

-- the outcome that the end of a context was told with, and how many frames were out before it
pub record End : Type 0 where
  pub outcome : Outcome
  pub out : ℕ

-- the end that is told behind a reply in a state
abbrev pub end_where : CallState → Option End → Reply → Option End
end_where s told (ending number outcome) = Some (record { outcome = outcome; out = s.out })
end_where s told _ = told

-- the end that is told behind the entries of a history
abbrev pub end_after : CallState → Option End → List LockEntry → Option End
end_after s told [] = told
end_after s told (e ∷ es) = end_after (after_entry s e) (end_where s told e.reply) es

-- the end that a history tells, where it tells one
abbrev pub end_in : CallState → List LockEntry → Option End
end_in start history = end_after start None history

-- the frame that came back last has the outcome
pub record CameWith (outcome : Outcome) (back : List RenderedFrame) : Type 0 where
  pub before : List RenderedFrame
  pub newest : RenderedFrame
  pub last : back ≡ before ++ newest ∷ []
  pub same : newest.outcome ≡ outcome

-- the context ended so: a frame came back, the last one, with the outcome that was told
abbrev pub HasEnded : {L : Type 0} → End → ContextView L → Type 0
HasEnded e v = CameWith e.outcome v.back × (v.out + 1 ≡ e.out)

-- the context runs where no end is told, and else it ended as it is told
abbrev pub EndedAs : {L : Type 0} → Option End → ContextView L → Type 0
EndedAs None v = v.is_ended ≡ false
EndedAs (Some e) v = (v.is_ended ≡ true) × HasEnded e v

-- ---- what is kept

-- the history is legal from its start, and the context's state is that after it, with as many frames out: so it is ended exactly where the history has an
-- ending, and it ended as that tells. What it has written in this frame is what the history's calls write
pub record IsKept {L : Type 0} (start : CallState) (book : BookView) (v : LockView L) : Type 0 where
  pub legal : IsLegal start v.history
  pub same : state_of v.context ≡ bared (state_after start v.history)
  pub written : v.context.book ≡ book_after book v.history
  pub told : EndedAs (end_in start v.history) v.context

-- a report is one that a context can give: the context was in the state after all entries but the last, ended its frame with this report, and is in the
-- state after all
pub record IsReport (L : Type 0) (admits : ℕ → ℕ → List Item → ℕ → Type 0) (views : ℕ) (start : CallState) (book : BookView) (report : FrameReport) (history : List LockEntry) : Type 0 where
  pub before : List LockEntry
  pub entry : LockEntry
  pub last : history ≡ before ++ entry ∷ []
  pub old : ContextView L
  pub new : ContextView L
  pub kept_before : IsKept start book (record { context = old; history = before })
  pub runs : old.is_ended ≡ false
  pub keeps : IsContext admits views old
  pub ends : CollectsAndEnds admits views (Ok report) old new
  pub kept : IsKept start book (record { context = new; history = history })
