use Rattle.std.proofs.Common.{rules, refl, subst, sym, ◌∙◌}
use Rattle.res_lock.specs.Seen.{call_seen}
use Rattle.res_lock.specs.Called.{IsRefusedBy}
use Rattle.res_lock.specs.declared.entry.LockRefusal.{LockRefusal}
use Rattle.res_lock.proofs.KeptLaws.{ended_kept, done_kept, change_refused}
use Rattle.res_lock.proofs.GivenLaws.{still_given, done_given, change_not_given}
use Rattle.res_lock.proofs.state.LockState.change.Goals as goal

pub invariant_of-self-then-is_ended : goal.invariant_of-self-then-is_ended
invariant_of-self-then-is_ended g c =
    let over = sym c.is_ended.ensures ∙ c.if-is_ended.true in
    (search rules, (ended_kept g.H.HistoryNaming.start _ _ c.self.invariant.1 _ _ _ _ c.reserve.ensures.same.0 over (call_seen c.args.call) c.frame_number-frame.result c.frame_number-frame.ensures.same c.append.ensures).kept, still_given g.C.Naming.admits g.C.Naming.views g.H.HistoryNaming.start g.H.HistoryNaming.book g.H.HistoryNaming.given _ _ c.self.invariant.2 _ _ _ _ c.reserve.ensures.same.0 _ (call_seen c.args.call) _ c.append.ensures refl refl)

pub returns-then-is_ended-clause-answer : goal.returns-then-is_ended-clause-answer
returns-then-is_ended-clause-answer g c =
    let over = sym c.is_ended.ensures ∙ c.if-is_ended.true in
    (ended_kept g.H.HistoryNaming.start _ _ c.self.invariant.1 _ _ _ _ c.reserve.ensures.same.0 over (call_seen c.args.call) c.frame_number-frame.result c.frame_number-frame.ensures.same c.append.ensures).calls

pub invariant_of-self-in-Ok : goal.invariant_of-self-in-Ok
invariant_of-self-in-Ok g c =
    let runs = sym c.is_ended.ensures ∙ c.if-is_ended.false in
    (search rules, (done_kept g.H.HistoryNaming.start _ _ c.self.invariant.1 _ _ _ _ c.reserve.ensures.same.0 runs (call_seen c.args.call) _ _ c.in-Ok.ensures c.append-in-Ok.ensures).kept, done_given g.C.Naming.admits g.C.Naming.views g.H.HistoryNaming.start g.H.HistoryNaming.book g.H.HistoryNaming.given _ _ c.self.invariant.2 _ _ _ _ c.reserve.ensures.same.0 (call_seen c.args.call) _ _ c.in-Ok.ensures c.append-in-Ok.ensures)

pub invariant_of-self-in-Err : goal.invariant_of-self-in-Err
invariant_of-self-in-Err g c =
    let runs = sym c.is_ended.ensures ∙ c.if-is_ended.false in
    (search rules, (change_refused g.H.HistoryNaming.start _ _ c.self.invariant.1 _ _ _ _ c.reserve.ensures.same.0 runs (call_seen c.args.call) c.in-Err.refusal _ c.in-Err.ensures c.refuse.ensures.adds).kept, change_not_given g.C.Naming.admits g.C.Naming.views g.H.HistoryNaming.start g.H.HistoryNaming.book g.H.HistoryNaming.given _ _ c.self.invariant.2 _ _ _ _ c.reserve.ensures.same.0 (call_seen c.args.call) c.in-Err.refusal _ c.in-Err.ensures c.refuse.ensures.adds)

pub returns-in-Ok-clause-answer : goal.returns-in-Ok-clause-answer
returns-in-Ok-clause-answer g c =
    let runs = sym c.is_ended.ensures ∙ c.if-is_ended.false in
    (done_kept g.H.HistoryNaming.start _ _ c.self.invariant.1 _ _ _ _ c.reserve.ensures.same.0 runs (call_seen c.args.call) _ _ c.in-Ok.ensures c.append-in-Ok.ensures).calls

pub returns-in-Err-clause-answer : goal.returns-in-Err-clause-answer
returns-in-Err-clause-answer g c =
    let runs = sym c.is_ended.ensures ∙ c.if-is_ended.false in
    subst (λ (x : LockRefusal). IsRefusedBy g.H.HistoryNaming.start (call_seen c.args.call) x c.args.pass.now c.refuse.new.pass) (sym c.refuse.ensures.same)
    (change_refused g.H.HistoryNaming.start _ _ c.self.invariant.1 _ _ _ _ c.reserve.ensures.same.0 runs (call_seen c.args.call) c.in-Err.refusal _ c.in-Err.ensures c.refuse.ensures.adds).answer
