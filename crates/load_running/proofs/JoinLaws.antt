-- Passes that are run and joined.
use Rattle.std.proofs.Common.{◌≡◌, ◌⊎◌, ◌≤◌, ℕ, ◌+◌, ◌<◌, Bool, true, false, ◌&&◌, List, [], ◌∷◌, ◌++◌, length, map, inl, inr, refl, ap, sym, ◌∙◌, subst, arith}
use Rattle.std.proofs.lemmas.List.{length-append}
use Rattle.std.proofs.lemmas.Bool.{cases_lt}
use Rattle.schedule_model.specs.Held.{count_of}
use Rattle.schedule_model.proofs.Lists.{count_of-append}
use Rattle.load_text.specs.Loads.{BlockLine, Block, lines_of}
use Rattle.load_text.specs.Seen.{line_seen}
use Rattle.res_lock.specs.Histories.{LockEntry, part_of, IsLegal}
use Rattle.res_lock.specs.Views.{PassView, first_view, joined_with, GoesOn}
use Rattle.res_lock.specs.Seats.{pass_view, caller_of}
use Rattle.res_lock.specs.declared.table.ResPass.{ResPass}
use Rattle.res_lock.proofs.Totals.{count_here}
use Rattle.load_running.specs.BlockCalls.{AreCallsOf}
use Rattle.load_running.specs.LoadHistories.{load_start, IsHistoryOf}
use Rattle.load_running.specs.Lines.{HasRun}
use Rattle.load_running.specs.Runs.{IsFirstOf, HasRunAs, IsAmong, HasJoined}
use Rattle.load_running.specs.Started.{IsStarted, Finishes}
use Rattle.load_running.specs.declared.blocks.Ran.{Ran}
use Rattle.load_running.specs.declared.callers.Started.{Started}
use Rattle.load_running.specs.declared.callers.Started.TheVariants as started

-- a block that was started and is finished was run
pub finished : (lines : List BlockLine) (pass : ResPass) (s : Started) (ran : Ran) → IsStarted lines pass s → Finishes s ran → HasRun lines ran.is_whole pass ran.pass
finished lines pass (started.Thread h) ran (same, spelled) run = subst (λ p. HasRun lines ran.is_whole p ran.pass) same (subst (λ ls. HasRun ls ran.is_whole h.promise.0.value ran.pass) spelled run)
finished lines pass (started.Here here) ran run same = subst (λ r. HasRun lines r.is_whole pass r.pass) (sym same) run

-- a pass that was run has the same callers
ran_callers : (lines : List BlockLine) (w : Bool) (old new : ResPass) → HasRun lines w old new → (pass_view new).callers ≡ (pass_view old).callers
ran_callers lines w old new h = ap (λ v. v.callers) h.view

-- the block of a caller was run
pub runs_as : (caller : ℕ) (blocks : List Block) (w : Bool) (old new : ResPass) → caller_of old ≡ caller → (pass_view old).callers ≡ caller ∷ [] → HasRun (lines_of caller blocks) w old new → HasRunAs caller blocks w (pass_view new)
runs_as caller blocks w old new is callers h = record {
  callers = ran_callers (lines_of caller blocks) w old new h ∙ callers;
  calls = λ e. subst (λ c. AreCallsOf (lines_of caller blocks) (part_of c (pass_view new).seen)) is (h.calls e);
}

-- ---- caller 0 alone

none_later : (count c : ℕ) → IsAmong count count c → c ≡ 0
none_later count c (inl e) = e
none_later count c (inr h) = absurd (omega (arith, h.0, h.1))

pub joined_first : (count : ℕ) (blocks : List Block) (w : Bool) (old new : ResPass) → IsFirstOf count old → HasRun (lines_of 0 blocks) w old new → HasJoined count count blocks w (pass_view new)
joined_first count blocks w old new first h =
    let callers : (pass_view new).callers ≡ 0 ∷ [] = ran_callers (lines_of 0 blocks) w old new h ∙ ap (λ v. v.callers) first.view in
    record {
      next = ap (λ v. v.next) h.view ∙ ap (λ v. v.next) first.view;
      length_is = let n : length (pass_view new).callers ≡ 1 = ap length callers in omega (arith, n);
      has = λ c among. subst (λ d. 0 < count_of d (pass_view new).callers) (sym (none_later count c among)) (subst (λ cs. 0 < count_of 0 cs) (sym callers) (let one = count_here 0 in omega (arith, one)));
      calls = λ e c among.
          subst (λ d. AreCallsOf (lines_of d blocks) (part_of d (pass_view new).seen)) (sym (none_later count c among))
          (subst (λ d. AreCallsOf (lines_of 0 blocks) (part_of d (pass_view new).seen)) first.caller (h.calls e));
    }

-- ---- a caller more

among_next : (from count c : ℕ) → IsAmong from count c → (c ≡ from) ⊎ IsAmong (from + 1) count c
among_next from count c (inl e) = inr (inl e)
among_next from count c (inr h) = by (cases_lt from c)
  where
    by : (from < c) ⊎ (c ≤ from) → (c ≡ from) ⊎ IsAmong (from + 1) count c
    by (inl lt) = inr (inr (omega (arith, lt), h.1))
    by (inr le) = inl (omega (arith, le, h.0))

left_true : (a b : Bool) → (a && b) ≡ true → a ≡ true
left_true true b e = refl
left_true false b e = e

right_true : (a b : Bool) → (a && b) ≡ true → b ≡ true
right_true true b e = e
right_true false b e = absurd (cc e)

-- a caller of either pass is one of both
in_both : (c : ℕ) (xs ys : List ℕ) → (0 < count_of c xs) ⊎ (0 < count_of c ys) → 0 < count_of c (xs ++ ys)
in_both c xs ys (inl h) = omega (arith, h, count_of-append c xs ys)
in_both c xs ys (inr h) = omega (arith, h, count_of-append c xs ys)

pub joined_more : (from count : ℕ) (blocks : List Block) (w1 w2 : Bool) (v u new : PassView) → HasJoined (from + 1) count blocks w1 v → HasRunAs from blocks w2 u
    → new ≡ joined_with v u → GoesOn v.callers v.seen new.seen → GoesOn u.callers u.seen new.seen → HasJoined from count blocks (w1 && w2) new
joined_more from count blocks w1 w2 v u new first other is own others =
    let callers : new.callers ≡ v.callers ++ u.callers = ap (λ p. p.callers) is in
    let own_has : 0 < count_of from u.callers = subst (λ cs. 0 < count_of from cs) (sym other.callers) (let one = count_here from in omega (arith, one)) in
    record {
      next = ap (λ p. p.next) is ∙ first.next;
      length_is = let n : length u.callers ≡ 1 = ap length other.callers in let m : length new.callers ≡ length v.callers + length u.callers = ap length callers ∙ length-append v.callers u.callers in let l = first.length_is in omega (arith, n, m, l);
      has = λ c among. subst (λ cs. 0 < count_of c cs) (sym callers) (in_both c v.callers u.callers (has_either c own_has (among_next from count c among)));
      calls = λ e c among. calls_either e c own_has (among_next from count c among);
    }
  where
    has_either : (c : ℕ) → 0 < count_of from u.callers → (c ≡ from) ⊎ IsAmong (from + 1) count c → (0 < count_of c v.callers) ⊎ (0 < count_of c u.callers)
    has_either c own_has (inl e) = inr (subst (λ d. 0 < count_of d u.callers) (sym e) own_has)
    has_either c own_has (inr among) = inl (first.has c among)

    calls_either : (w1 && w2) ≡ true → (c : ℕ) → 0 < count_of from u.callers → (c ≡ from) ⊎ IsAmong (from + 1) count c → AreCallsOf (lines_of c blocks) (part_of c new.seen)
    calls_either e c own_has (inl same) =
        subst (λ d. AreCallsOf (lines_of d blocks) (part_of d new.seen)) (sym same)
        (subst (AreCallsOf (lines_of from blocks)) (sym (others.1 from own_has)) (other.calls (right_true w1 w2 e)))
    calls_either e c own_has (inr among) =
        subst (AreCallsOf (lines_of c blocks)) (sym (own.1 c (first.has c among))) (first.calls (left_true w1 w2 e) c among)

-- ---- the whole history

pub history_of : (count : ℕ) (blocks : List Block) (v : PassView) (es : List LockEntry) → HasJoined 1 count blocks true v → es ≡ v.seen → IsLegal load_start es
    → ((c : ℕ) → count ≤ c → lines_of c blocks ≡ []) → ((c : ℕ) → v.next ≤ c → part_of c es ≡ []) → IsHistoryOf blocks es
history_of count blocks v es joined is legal none beyond = record {
  legal = legal;
  calls = λ c. by c (cases_lt c count) (cases_lt 0 c);
}
  where
    among : (c : ℕ) → IsAmong 1 count c → AreCallsOf (lines_of c blocks) (part_of c es)
    among c h = subst (λ xs. AreCallsOf (lines_of c blocks) (part_of c xs)) (sym is) (joined.calls refl c h)

    by : (c : ℕ) → (c < count) ⊎ (count ≤ c) → (0 < c) ⊎ (c ≤ 0) → AreCallsOf (lines_of c blocks) (part_of c es)
    by c (inl lt) (inl some) = among c (inr (omega (arith, some), lt))
    by c (inl lt) (inr zero) = among c (inl (omega (arith, zero)))
    by c (inr le) other =
        subst (λ ls. AreCallsOf ls (part_of c es)) (sym (none c le))
        (beyond c (let n = joined.next in omega (arith, n, le)))
