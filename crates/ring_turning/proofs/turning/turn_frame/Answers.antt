use Rattle.ring_turning.proofs.Turns.{frame_turned, frame_refused, refused_told}
use Rattle.ring_turning.proofs.turning.turn_frame.Goals as goal

pub returns-clause-turned : goal.returns-clause-turned
returns-clause-turned g c =
    let answer = c.in_ok-report.ensures.answer in
    frame_turned g.C.Naming.admits c.requires.admitted g.C.Naming.views c.args.context.now c.record_ring.new.context answer.collected c.frame.new.self c.requires.at
    c.tell_facts.ensures.keeps.tied.frame c.in_ok-record_ring.ensures.begun answer.collects c.in_ok-record_ring.ensures.both c.in_ok-report.report answer.ends
    c.goes_on.result c.goes_on.ensures

pub returns-in_err-report-clause-turned : goal.returns-in_err-report-clause-turned
returns-in_err-report-clause-turned g c =
    let answer = c.in_err-report.ensures.answer in
    let left = frame_refused g.C.Naming.admits c.requires.admitted g.C.Naming.views c.args.context.now c.record_ring.new.context answer.collected c.frame.new.self c.requires.at
    c.tell_facts.ensures.keeps.tied.frame c.in_ok-record_ring.ensures.begun answer.collects c.in_err-report.field-0.0 answer.ends in
    refused_told c.from_residual-in_err-report.result _ _ _ c.from_residual-in_err-report.ensures.1 left
