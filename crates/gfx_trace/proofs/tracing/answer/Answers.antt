use Rattle.std.proofs.Common.{◌≡◌, refl, ap, subst}
use Rattle.io_whole.specs.Runs.{putting}
use Rattle.gfx_trace.specs.declared.asked.AskedFault.{AskedFault}
use Rattle.gfx_trace.specs.Asked.{asked_of}
use Rattle.gfx_trace.specs.Ended.{asked_status}
use Rattle.gfx_trace.specs.Found.{FailsAsked}
use Rattle.gfx_trace.specs.Jobs.{job_seen}
use Rattle.gfx_trace.specs.declared.status.TraceStatus.TheVariants as status
use Rattle.gfx_trace.proofs.Ends.{memory_answered, refused_answered}
use Rattle.gfx_trace.proofs.tracing.answer.Goals as goal

pub returns-in-Err-Scene-clause-answered : goal.returns-in-Err-Scene-clause-answered
returns-in-Err-Scene-clause-answered g c =
    let job = job_seen c.args.job in
    let found = subst (λ (f : AskedFault). FailsAsked f (asked_of c.args.bytes.now)) c.in-Err-Scene.field-0-is c.in-Err-Scene.ensures.found in
    let is : asked_status job (asked_of c.args.bytes.now) ≡ status.Scene c.in-Err-Scene.line c.in-Err-Scene.cause = ap (asked_status job) found in
    refused_answered (status.Scene c.in-Err-Scene.line c.in-Err-Scene.cause) c.refuse_scene.result job c.args.bytes.now _ _ _ tt is refl refl c.refuse_scene.ensures.refused

pub returns-in-Err-Journal-clause-answered : goal.returns-in-Err-Journal-clause-answered
returns-in-Err-Journal-clause-answered g c =
    let job = job_seen c.args.job in
    let found = subst (λ (f : AskedFault). FailsAsked f (asked_of c.args.bytes.now)) c.in-Err-Journal.field-0-is c.in-Err-Journal.ensures.found in
    let is : asked_status job (asked_of c.args.bytes.now) ≡ status.Journal c.in-Err-Journal.place = ap (asked_status job) found in
    refused_answered (status.Journal c.in-Err-Journal.place) c.refuse_journal.result job c.args.bytes.now _ _ _ tt is refl refl c.refuse_journal.ensures.refused

pub returns-in-Err-OutOfMemory-clause-answered : goal.returns-in-Err-OutOfMemory-clause-answered
returns-in-Err-OutOfMemory-clause-answered g c =
    let sink = putting (g.P.Sink.held c.args.sink) (g.P.Sink.held c.args.sink) (g.P.Sink.faults c.args.sink) (g.P.Sink.faults c.args.sink) in
    let notes = putting (g.N.Sink.held c.args.notes.now) (g.N.Sink.held c.args.notes.now) (g.N.Sink.faults c.args.notes.now) (g.N.Sink.faults c.args.notes.now) in
    memory_answered (job_seen c.args.job) c.args.bytes.now sink notes refl refl
