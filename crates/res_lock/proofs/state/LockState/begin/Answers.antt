use Rattle.std.proofs.Common.{rules, refl, ap, subst, sym, ◌∙◌}
use Rattle.gfx_words.specs.Seen.{refusal_seen}
use Rattle.draw_encoder.specs.Seen.{room_seen}
use Rattle.res_lock.specs.Histories.{begins}
use Rattle.res_lock.specs.Called.{IsRefusedBy}
use Rattle.res_lock.specs.declared.entry.LockRefusal.{LockRefusal}
use Rattle.res_lock.proofs.KeptLaws.{ended_kept}
use Rattle.res_lock.proofs.FrameLaws.{begun_kept, begin_refused}
use Rattle.res_lock.proofs.GivenLaws.{still_given, refused_given}
use Rattle.res_lock.proofs.state.LockState.begin.Goals as goal

pub invariant_of-self-then-is_ended : goal.invariant_of-self-then-is_ended
invariant_of-self-then-is_ended g c =
    let over = sym c.is_ended.ensures ∙ c.if-is_ended.true in
    (search rules, (ended_kept g.H.HistoryNaming.start _ _ c.self.invariant.1 _ _ _ _ c.reserve.ensures.same.0 over (begins (room_seen c.args.room)) c.frame_number-frame.result c.frame_number-frame.ensures.same c.append.ensures).kept, still_given g.C.Naming.admits g.C.Naming.views g.H.HistoryNaming.start g.H.HistoryNaming.book g.H.HistoryNaming.given _ _ c.self.invariant.2 _ _ _ _ c.reserve.ensures.same.0 _ (begins (room_seen c.args.room)) _ c.append.ensures refl refl)

pub returns-then-is_ended-clause-answer : goal.returns-then-is_ended-clause-answer
returns-then-is_ended-clause-answer g c =
    let over = sym c.is_ended.ensures ∙ c.if-is_ended.true in
    (ended_kept g.H.HistoryNaming.start _ _ c.self.invariant.1 _ _ _ _ c.reserve.ensures.same.0 over (begins (room_seen c.args.room)) c.frame_number-frame.result c.frame_number-frame.ensures.same c.append.ensures).calls

pub invariant_of-self-in-Ok : goal.invariant_of-self-in-Ok
invariant_of-self-in-Ok g c =
    let runs = sym c.is_ended.ensures ∙ c.if-is_ended.false in
    (search rules, (begun_kept g.H.HistoryNaming.start _ _ c.self.invariant.1 _ _ _ _ c.reserve.ensures.same.0 c.tell_facts.ensures.keeps runs (room_seen c.args.room) c.in-Ok.encoder c.number-number.result _ c.number-number.ensures c.in-Ok.ensures c.append-in-Ok.ensures).kept, still_given g.C.Naming.admits g.C.Naming.views g.H.HistoryNaming.start g.H.HistoryNaming.book g.H.HistoryNaming.given _ _ c.self.invariant.2 _ _ _ _ c.reserve.ensures.same.0 _ (begins (room_seen c.args.room)) _ c.append-in-Ok.ensures (ap (λ v. v.given) c.in-Ok.ensures.after) refl)

pub invariant_of-self-in-Err : goal.invariant_of-self-in-Err
invariant_of-self-in-Err g c =
    let runs = sym c.is_ended.ensures ∙ c.if-is_ended.false in
    (search rules, (begin_refused g.H.HistoryNaming.start _ _ c.self.invariant.1 _ _ _ _ c.reserve.ensures.same.0 runs (room_seen c.args.room) c.in-Err.refusal _ c.in-Err.ensures c.refuse.ensures.adds).kept, refused_given g.C.Naming.admits g.C.Naming.views g.H.HistoryNaming.start g.H.HistoryNaming.book g.H.HistoryNaming.given _ _ c.self.invariant.2 _ _ _ _ c.reserve.ensures.same.0 _ c.in-Err.ensures.1 (begins (room_seen c.args.room)) c.in-Err.refusal (refusal_seen c.in-Err.refusal) c.refuse.ensures.adds)

pub returns-in-Ok-clause-answer : goal.returns-in-Ok-clause-answer
returns-in-Ok-clause-answer g c =
    let runs = sym c.is_ended.ensures ∙ c.if-is_ended.false in
    (begun_kept g.H.HistoryNaming.start _ _ c.self.invariant.1 _ _ _ _ c.reserve.ensures.same.0 c.tell_facts.ensures.keeps runs (room_seen c.args.room) c.in-Ok.encoder c.number-number.result _ c.number-number.ensures c.in-Ok.ensures c.append-in-Ok.ensures).begins_here

pub returns-in-Err-clause-answer : goal.returns-in-Err-clause-answer
returns-in-Err-clause-answer g c =
    let runs = sym c.is_ended.ensures ∙ c.if-is_ended.false in
    subst (λ (x : LockRefusal). IsRefusedBy g.H.HistoryNaming.start (begins (room_seen c.args.room)) x c.args.pass.now c.refuse.new.pass) (sym c.refuse.ensures.same)
    (begin_refused g.H.HistoryNaming.start _ _ c.self.invariant.1 _ _ _ _ c.reserve.ensures.same.0 runs (room_seen c.args.room) c.in-Err.refusal _ c.in-Err.ensures c.refuse.ensures.adds).answer
