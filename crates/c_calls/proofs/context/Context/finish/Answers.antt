use Rattle.std.proofs.Common.{◌≡◌, refl, sym, ap, ◌∙◌, subst}
use Rattle.frame_record.specs.declared.frame.Frame.{Frame}
use Rattle.context_core.specs.Ended.{IsReady, Gives}
use Rattle.context_core.specs.States.{CoreView}
use Rattle.c_calls.specs.Frames.{came_back, Shows}
use Rattle.c_calls.specs.Rendered.{rendering_of}
use Rattle.c_calls.specs.Standings.{stands}
use Rattle.c_calls.specs.Views.{ContextView}
use Rattle.c_calls.proofs.Frames.{on_finished}
use Rattle.c_calls.proofs.context.Context.finish.Goals as goal

pub finish-rendered-requires-clause-running : goal.finish-rendered-requires-clause-running
finish-rendered-requires-clause-running c = c.self.invariant.0.runs

pub finish-rendered-requires-clause-ready : goal.finish-rendered-requires-clause-ready
finish-rendered-requires-clause-ready c = (c.requires.ready.0, subst (λ (v : ContextView). IsReady c.args.prepared c.requires.ready.0 v.core) (sym c.self.view_is) c.requires.ready.1)

pub invariant_of-self : goal.invariant_of-self
invariant_of-self c = let e = c.finish-rendered.ensures.made in (on_finished c.self.invariant.0 c.args.prepared.work c.finish-rendered.result.frame e.0 c.finish-rendered.new.core e.1 e.2, c.self.invariant.1)

pub returns : goal.returns
returns c =
    let r = c.finish-rendered.result in
    let e = c.finish-rendered.ensures in
    let new : ContextView = record { core = c.finish-rendered.new.core; rows = c.self.inside.things.rows.items; renderer = rendering_of c.finish-rendered.new.renderer; standing = c.after.result; most = c.finish-rendered.new.renderer.sink.capacity } in
    subst (λ (v : ContextView). (frame : Frame) × (made : CoreView) × (r.frame.number ≡ frame.number) × Gives c.args.prepared.work frame v.core made × Shows frame (record v { core = came_back made }) new) c.self.view_is
    (r.frame, e.made.0, refl, e.made.1, (r, refl, e.rendered, (λ j. record { core = e.made.2 j; rows = c.self.inside.things.rows.items; renderer = new.renderer; standing = (c.after.ensures ∙ ap stands c.was_shown.ensures) j; most = e.capacity j })))
