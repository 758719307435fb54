use Rattle.std.proofs.Common.{ap, ◌∙◌, map}
use Rattle.frame_record.specs.Seen.{entry_seen}
use Rattle.context_core.specs.States.{CoreView}
use Rattle.gfx_context.specs.declared.report.FrameReport.{FrameReport}
use Rattle.gfx_context.specs.States.{ContextView, context_of}
use Rattle.gfx_context.proofs.Drawn.{drawn_told}
use Rattle.gfx_context.proofs.Finish.{ends_told, not_spent}
use Rattle.gfx_context.proofs.context.Context.end.Goals as goal

pub returns-clause-answer : goal.returns-clause-answer
returns-clause-answer g c =
    let given = g.L.FrameLink.given c.self.inside.link in
    let back = g.L.FrameLink.back c.self.inside.link in
    let link = c.self.inside.link in
    let v : ContextView g.row.L.Denot = context_of c.self.inside.core.state given back link in
    let one : ContextView g.row.L.Denot = context_of c.prepare.new.self.state given back link in
    let ready = c.in-Ok.ensures in
    let way = c.make_way-back.ensures in
    let report : FrameReport = record { number = c.frame_number-number.result; journal = c.finish-told.result; dropped = c.dropped-dropped.result; back = c.make_way-back.result; given = c.was_shown-given.result } in
    ends_told v one c.make_way-back.new.self c.finish-told.new.self c.in-Ok.prepared report
    (record { number = c.frame_number-number.ensures.same; journal = ap (λ x. map entry_seen x.items) c.finish-told.ensures.told ∙ ready.prepared.told; dropped = c.dropped-dropped.ensures; given = c.was_shown-given.ensures })
    (not_spent v ready.accepted) (ap (λ (x : CoreView). context_of x.state given back link) ready.after) ready.prepared way.back way.out way.same c.finish-told.ensures.finishes c.args.self.now c.self.view_is

pub returns-clause-drawn : goal.returns-clause-drawn
returns-clause-drawn g c = drawn_told _ c.args.self.now c.finish-told.new.self (returns-clause-answer g c)
