use Rattle.std.proofs.Common.{refl, sym}
use Rattle.scene_text.specs.Seen.{journal_seen}
use Rattle.io_whole.specs.Runs.{putting}
use Rattle.capture_running.specs.Ended.{HasGiven}
use Rattle.capture_running.specs.Filmed.{film_of}
use Rattle.capture_running.proofs.Recorded.{are-texts, done-ends, film-is, noted-ends, other-ends, starved-ends}
use Rattle.capture_running.proofs.recording.record_scene.Goals as goal

pub put_capture-requires : goal.put_capture-requires
put_capture-requires g c =
    let h = c.requires.measured in
    let p = c.in-Ok.played in
    let journal = journal_seen p.journal in
    ((film_of h.0 journal).pictures, are-texts h.0 c.args.size h.2 journal p.status p.pictures.bytes.items c.bytes.result.now _ c.in-Done.is (c.in-Ok.ensures.played h.0 h.1) c.bytes.ensures)

pub returns-in-Err-clause-ends : goal.returns-in-Err-clause-ends
returns-in-Err-clause-ends g c = λ source read. starved-ends c.blank.result.status source _ _ _ c.blank.ensures.status c.blank.ensures.journal refl c.in-Err.ensures.quiet

pub returns-in-Done-clause-ends : goal.returns-in-Done-clause-ends
returns-in-Done-clause-ends g c = λ source read.
    let h = c.requires.measured in
    let p = c.in-Ok.played in
    let journal = journal_seen p.journal in
    let given : HasGiven h.0 source = record { bytes = c.args.text.items; read = read; is = h.1 } in
    let played = c.in-Ok.ensures.played h.0 h.1 in
    let texts = are-texts h.0 c.args.size h.2 journal p.status p.pictures.bytes.items c.bytes.result.now _ c.in-Done.is played c.bytes.ensures in
    done-ends h.0 c.args.size h.2 journal source _ _ given p.status c.put_capture.result p.pictures.bytes.items c.in-Done.is played
    (c.put_capture.ensures.put (film_of h.0 journal) (sym (film-is h.0 c.args.size h.2 journal)) texts)

pub returns-in-NoteFault-clause-ends : goal.returns-in-NoteFault-clause-ends
returns-in-NoteFault-clause-ends g c = λ source read.
    let h = c.requires.measured in
    let p = c.in-Ok.played in
    let given : HasGiven h.0 source = record { bytes = c.args.text.items; read = read; is = h.1 } in
    let unput = putting (g.P.Sink.held c.args.sink.now) (g.P.Sink.held c.args.sink.now) (g.P.Sink.faults c.args.sink.now) (g.P.Sink.faults c.args.sink.now) in
    noted-ends h.0 c.args.size h.2 (journal_seen p.journal) source unput _ given p.status p.pictures.bytes.items c.in-NoteFault.is (c.in-Ok.ensures.played h.0 h.1) refl

pub returns-clause-ends : goal.returns-clause-ends
returns-clause-ends g c = λ source read.
    let h = c.requires.measured in
    let p = c.in-Ok.played in
    let given : HasGiven h.0 source = record { bytes = c.args.text.items; read = read; is = h.1 } in
    let unput = putting (g.P.Sink.held c.args.sink.now) (g.P.Sink.held c.args.sink.now) (g.P.Sink.faults c.args.sink.now) (g.P.Sink.faults c.args.sink.now) in
    other-ends h.0 c.args.size h.2 (journal_seen p.journal) source unput _ given p.status p.pictures.bytes.items (c.in-Ok.ensures.played h.0 h.1) c.in_default.not-Done c.in_default.not-NoteFault refl
