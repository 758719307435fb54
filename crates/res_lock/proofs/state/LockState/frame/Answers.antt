use Rattle.std.proofs.Common.{rules, refl, subst, sym, ◌∙◌}
use Rattle.res_lock.specs.Histories.{ends_frame}
use Rattle.res_lock.specs.Called.{IsRefusedBy}
use Rattle.res_lock.specs.declared.entry.LockRefusal.{LockRefusal}
use Rattle.res_lock.proofs.KeptLaws.{ended_kept}
use Rattle.res_lock.proofs.FrameLaws.{framed_kept, reported, frame_refused}
use Rattle.res_lock.proofs.GivenLaws.{still_given, framed_given, not_framed_given}
use Rattle.res_lock.proofs.state.LockState.frame.Goals as goal

pub invariant_of-self-then-is_ended : goal.invariant_of-self-then-is_ended
invariant_of-self-then-is_ended g c =
    let over = sym c.is_ended.ensures ∙ c.if-is_ended.true in
    (search rules, (ended_kept g.H.HistoryNaming.start _ _ c.self.invariant.1 _ _ _ _ c.reserve.ensures.same.0 over ends_frame c.frame_number-frame.result c.frame_number-frame.ensures.same c.append.ensures).kept, still_given g.C.Naming.admits g.C.Naming.views g.H.HistoryNaming.start g.H.HistoryNaming.book g.H.HistoryNaming.given _ _ c.self.invariant.2 _ _ _ _ c.reserve.ensures.same.0 _ ends_frame _ c.append.ensures refl refl)

pub returns-then-is_ended-clause-answer : goal.returns-then-is_ended-clause-answer
returns-then-is_ended-clause-answer g c =
    let over = sym c.is_ended.ensures ∙ c.if-is_ended.true in
    (ended_kept g.H.HistoryNaming.start _ _ c.self.invariant.1 _ _ _ _ c.reserve.ensures.same.0 over ends_frame c.frame_number-frame.result c.frame_number-frame.ensures.same c.append.ensures).calls

pub invariant_of-self-in-Ok : goal.invariant_of-self-in-Ok
invariant_of-self-in-Ok g c =
    let runs = sym c.is_ended.ensures ∙ c.if-is_ended.false in
    (search rules, (framed_kept g.H.HistoryNaming.start _ _ c.self.invariant.1 _ _ _ _ c.reserve.ensures.same.0 runs c.tell_facts.ensures.keeps.latency.0 c.in-Ok.report _ _ c.told-reply.ensures c.in-Ok.ensures.answer c.append-in-Ok.ensures).kept, framed_given g.C.Naming.admits g.C.Naming.views g.H.HistoryNaming.start g.H.HistoryNaming.book g.H.HistoryNaming.given _ _ c.self.invariant.2 _ _ _ _ c.reserve.ensures.same.0 c.self.invariant.1 runs c.tell_facts.ensures.keeps c.in-Ok.report _ _ c.told-reply.ensures c.in-Ok.ensures.answer c.append-in-Ok.ensures)

pub invariant_of-self-in-Err : goal.invariant_of-self-in-Err
invariant_of-self-in-Err g c =
    let runs = sym c.is_ended.ensures ∙ c.if-is_ended.false in
    (search rules, (frame_refused g.H.HistoryNaming.start _ _ c.self.invariant.1 _ _ _ _ c.reserve.ensures.same.0 runs c.in-Err.refusal _ c.in-Err.ensures.answer c.refuse.ensures.adds).kept, not_framed_given g.C.Naming.admits g.C.Naming.views g.H.HistoryNaming.start g.H.HistoryNaming.book g.H.HistoryNaming.given _ _ c.self.invariant.2 _ _ _ _ c.reserve.ensures.same.0 c.self.invariant.1 runs c.tell_facts.ensures.keeps c.in-Err.refusal _ c.in-Err.ensures.answer c.refuse.ensures.adds)

pub returns-in-Ok-clause-answer : goal.returns-in-Ok-clause-answer
returns-in-Ok-clause-answer g c =
    let runs = sym c.is_ended.ensures ∙ c.if-is_ended.false in
    (framed_kept g.H.HistoryNaming.start _ _ c.self.invariant.1 _ _ _ _ c.reserve.ensures.same.0 runs c.tell_facts.ensures.keeps.latency.0 c.in-Ok.report _ _ c.told-reply.ensures c.in-Ok.ensures.answer c.append-in-Ok.ensures).calls

pub returns-in-Ok-clause-report : goal.returns-in-Ok-clause-report
returns-in-Ok-clause-report g c =
    let runs = sym c.is_ended.ensures ∙ c.if-is_ended.false in
    reported g.H.HistoryNaming.start _ _ c.self.invariant.1 _ _ _ _ c.reserve.ensures.same.0 runs c.tell_facts.ensures.keeps c.in-Ok.report _ _ c.told-reply.ensures c.in-Ok.ensures.answer c.append-in-Ok.ensures

pub returns-in-Err-clause-answer : goal.returns-in-Err-clause-answer
returns-in-Err-clause-answer g c =
    let runs = sym c.is_ended.ensures ∙ c.if-is_ended.false in
    subst (λ (x : LockRefusal). IsRefusedBy g.H.HistoryNaming.start ends_frame x c.args.pass.now c.refuse.new.pass) (sym c.refuse.ensures.same)
    (frame_refused g.H.HistoryNaming.start _ _ c.self.invariant.1 _ _ _ _ c.reserve.ensures.same.0 runs c.in-Err.refusal _ c.in-Err.ensures.answer c.refuse.ensures.adds).answer
