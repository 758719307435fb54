-- Lines of a block that are run one after the other.
use Rattle.std.proofs.Common.{◌≡◌, ◌≤◌, ℕ, ◌+◌, ◌<◌, List, [], ◌∷◌, ◌++◌, append_assoc, Option, Some, None, Result, Ok, Err, refl, ap, sym, ◌∙◌, subst, arith}
use Rattle.std.specs.Option.{MatchOption, IsSome}
use Rattle.gfx_model.specs.Words.{Handle}
use Rattle.gfx_model.specs.Resources.{ResourceCall, destroy}
use Rattle.gfx_model.specs.Resources as model
use Rattle.gfx_model.specs.FrameCalls.{CallState}
use Rattle.gfx_words.specs.Seen.{refusal_seen}
use Rattle.gfx_context.specs.declared.report.FrameReport.{FrameReport}
use Rattle.schedule_model.specs.Held.{count_of}
use Rattle.load_text.specs.Loads.{BlockLine, destroy_line, frame_line}
use Rattle.res_lock.specs.Histories.{LockCall, on_things, ends_frame, Reply, done, refused, LockEntry, part_of}
use Rattle.res_lock.specs.Called.{Calls, Stays, IsRefusedBy, IsCreated, IsChanged, IsFramed, reply_of}
use Rattle.res_lock.specs.Seats.{pass_view, caller_of, made_by}
use Rattle.res_lock.specs.declared.table.ResPass.{ResPass}
use Rattle.res_lock.specs.declared.entry.LockRefusal.{LockRefusal}
use Rattle.res_lock.specs.declared.entry.LockRefusal.TheVariants as lock_refusals
use Rattle.res_lock.proofs.PartLaws.{part-append, part_own}
use Rattle.load_running.specs.BlockCalls.{call_of, thing_of, things_after, IsCallThen, AreCallsFrom}
use Rattle.load_running.specs.Lines.{IsEntered, IsAnswered, refusal_reply, create_reply, RunsCall, RunsLine, IsSameBut}

-- ---- what stays of a pass

pub calls_same : {start : CallState} {call : LockCall} {reply : Reply} {old new : ResPass} → Calls start call reply old new → IsSameBut (pass_view old) (pass_view new)
calls_same {old = old} h = h.view ∙ ap (λ s. record (pass_view old) { seen = s }) (sym (ap (λ v. v.seen) h.view))

pub stays_same : {old new : ResPass} → Stays old new → IsSameBut (pass_view old) (pass_view new)
stays_same {old = old} h = h.view ∙ ap (λ s. record (pass_view old) { seen = s }) (sym (ap (λ v. v.seen) h.view))

entered_same : (start : CallState) (call : LockCall) (reply : Reply) (o : Option model.Refusal) (old new : ResPass) → MatchOption o (Stays old new) (λ x. Calls start call reply old new) → IsSameBut (pass_view old) (pass_view new)
entered_same start call reply None old new h = stays_same h
entered_same start call reply (Some x) old new h = calls_same h

refused_same : (start : CallState) (call : LockCall) (r : LockRefusal) (old new : ResPass) → IsRefusedBy start call r old new → IsSameBut (pass_view old) (pass_view new)
refused_same start call (lock_refusals.Refused r) old new h = entered_same start call (refused r) (refusal_seen r) old new h
refused_same start call (lock_refusals.Ended frame) old new h = calls_same h

pub created_same : (start : CallState) (call : LockCall) (a : Result Handle LockRefusal) (old new : ResPass) → IsCreated start call a old new → IsSameBut (pass_view old) (pass_view new)
created_same start call (Ok h) old new c = calls_same c
created_same start call (Err r) old new c = refused_same start call r old new c

pub changed_same : (start : CallState) (call : LockCall) (a : Result (Unit {0}) LockRefusal) (old new : ResPass) → IsChanged start call a old new → IsSameBut (pass_view old) (pass_view new)
changed_same start call (Ok h) old new c = calls_same c
changed_same start call (Err r) old new c = refused_same start call r old new c

pub framed_same : (start : CallState) (a : Result FrameReport LockRefusal) (old new : ResPass) → IsFramed start a old new → IsSameBut (pass_view old) (pass_view new)
framed_same start (Ok report) old new c = calls_same c
framed_same start (Err r) old new c = refused_same start ends_frame r old new c

-- ---- answers that stand in the history

entered_calls : (start : CallState) (call : LockCall) (reply : Reply) (o : Option model.Refusal) (old new : ResPass) → MatchOption o (Stays old new) (λ x. Calls start call reply old new) → IsSome o → Calls start call reply old new
entered_calls start call reply None old new h e = absurd (cc e)
entered_calls start call reply (Some x) old new h e = h

refused_calls : (start : CallState) (call : LockCall) (r : LockRefusal) (old new : ResPass) → IsRefusedBy start call r old new → IsEntered r → Calls start call (refusal_reply r) old new
refused_calls start call (lock_refusals.Refused r) old new h e = entered_calls start call (refused r) (refusal_seen r) old new h e
refused_calls start call (lock_refusals.Ended frame) old new h e = h

pub created_calls : (start : CallState) (call : LockCall) (a : Result Handle LockRefusal) (old new : ResPass) → IsCreated start call a old new → IsAnswered a → Calls start call (create_reply a) old new
created_calls start call (Ok h) old new c e = c
created_calls start call (Err r) old new c e = refused_calls start call r old new c e

-- ---- lines

-- a thing is destroyed
pub destroys : (start : CallState) (things : List (Option Handle)) (n : ℕ) (h : Handle) (reply : Reply) (old new : ResPass) → thing_of things n ≡ Some h → Calls start (on_things (destroy h)) reply old new
    → RunsLine start (destroy_line n) things things old new
destroys start things n h reply old new e c = rw e (reply, refl, c)

pub destroy_answered : (start : CallState) (things : List (Option Handle)) (n : ℕ) (h : Handle) (r : LockRefusal) (old new : ResPass) → thing_of things n ≡ Some h → IsRefusedBy start (on_things (destroy h)) r old new → IsEntered r
    → RunsLine start (destroy_line n) things things old new
destroy_answered start things n h r old new e c a = destroys start things n h (refusal_reply r) old new e (refused_calls start (on_things (destroy h)) r old new c a)

-- nothing was made, so nothing is destroyed
pub destroys_nothing : (start : CallState) (things : List (Option Handle)) (n : ℕ) (old : ResPass) → thing_of things n ≡ None → RunsLine start (destroy_line n) things things old old
destroys_nothing start things n old e = rw e (refl, record { view = refl; made = refl })

pub frame_runs : (start : CallState) (things : List (Option Handle)) (a : Result FrameReport LockRefusal) (old new : ResPass) → IsFramed start a old new → IsAnswered a → RunsLine start frame_line things things old new
frame_runs start things (Ok report) old new c e = (reply_of report.given report.number report.back, refl, c)
frame_runs start things (Err r) old new c e = (refusal_reply r, refl, refused_calls start ends_frame r old new c e)

-- ---- how often a pass made a call

runs_call_made : (start : CallState) (o : Option LockCall) (behind : Reply → List (Option Handle)) (things : List (Option Handle)) (old new : ResPass) → RunsCall start o behind things old new → made_by new ≤ made_by old + 1
runs_call_made start None behind things old new (e, h) = let m = h.made in omega (arith, m)
runs_call_made start (Some call) behind things old new (reply, e, h) = let m = h.made in omega (arith, m)

pub runs_made : (start : CallState) (line : BlockLine) (before after : List (Option Handle)) (old new : ResPass) → RunsLine start line before after old new → made_by new ≤ made_by old + 1
runs_made start line before after old new h = runs_call_made start (call_of before line) (things_after before line) after old new h

-- ---- the part of a caller

-- a call is the next one of its caller
grows : (start : CallState) (call : LockCall) (reply : Reply) (old new : ResPass) → 0 < count_of (caller_of old) (pass_view old).callers → Calls start call reply old new
    → part_of (caller_of old) (pass_view new).seen ≡ part_of (caller_of old) (pass_view old).seen ++ record { caller = caller_of old; ordinal = made_by old; call = call; reply = reply } ∷ []
grows start call reply old new has h =
    let e : LockEntry = record { caller = caller_of old; ordinal = made_by old; call = call; reply = reply } in
    ap (λ v. part_of (caller_of old) v.seen) h.view
    ∙ part-append (caller_of old) h.before (e ∷ [])
    ∙ (λ i. h.on.1 (caller_of old) has i ++ part_own (caller_of old) e refl i)

-- what would follow the calls of a line and of those behind it follows
call_step : (start : CallState) (W : List LockEntry → Type 0) (behind : Reply → List (Option Handle)) (after : List (Option Handle)) (lines : List BlockLine) (old new : ResPass)
    → 0 < count_of (caller_of old) (pass_view old).callers
    → (o : Option LockCall) → RunsCall start o behind after old new
    → ((rest : List LockEntry) → IsCallThen (λ reply more. AreCallsFrom (behind reply) lines more) o rest → W (part_of (caller_of old) (pass_view old).seen ++ rest))
    → (rest : List LockEntry) → AreCallsFrom after lines rest → W (part_of (caller_of old) (pass_view new).seen ++ rest)
call_step start W behind after lines old new has None (e, h) follows rest are =
    subst (λ v. W (part_of (caller_of old) v.seen ++ rest)) (sym h.view) (follows rest (subst (λ ts. AreCallsFrom ts lines rest) e are))
call_step start W behind after lines old new has (Some call) (reply, e, h) follows rest are =
    let entry : LockEntry = record { caller = caller_of old; ordinal = made_by old; call = call; reply = reply } in
    let same : part_of (caller_of old) (pass_view new).seen ++ rest ≡ part_of (caller_of old) (pass_view old).seen ++ entry ∷ rest
    = ap (λ es. es ++ rest) (grows start call reply old new has h) ∙ append_assoc (part_of (caller_of old) (pass_view old).seen) (entry ∷ []) rest in
    subst W (sym same) (follows (entry ∷ rest) (refl, subst (λ ts. AreCallsFrom ts lines rest) e are))

pub line_step : (start : CallState) (W : List LockEntry → Type 0) (line : BlockLine) (before after : List (Option Handle)) (lines : List BlockLine) (old new : ResPass)
    → 0 < count_of (caller_of old) (pass_view old).callers → RunsLine start line before after old new
    → ((rest : List LockEntry) → AreCallsFrom before (line ∷ lines) rest → W (part_of (caller_of old) (pass_view old).seen ++ rest))
    → (rest : List LockEntry) → AreCallsFrom after lines rest → W (part_of (caller_of old) (pass_view new).seen ++ rest)
line_step start W line before after lines old new has h follows =
    call_step start W (things_after before line) after lines old new has (call_of before line) h follows
