use Rattle.std.proofs.Common.{refl, sym, ap, ◌∙◌, subst}
use Rattle.context_core.specs.Ended.{Gives}
use Rattle.frame_record.specs.declared.frame.Frame.{Frame}
use Rattle.c_calls.specs.Begun.{IsReadied}
use Rattle.c_calls.specs.Rendered.{rendering_of}
use Rattle.c_calls.specs.Views.{ContextView}
use Rattle.c_calls.proofs.InPasses.{opened_on}
use Rattle.c_calls.proofs.context.Context.open_frame.Goals as goal

pub invariant_of-result : goal.invariant_of-result
invariant_of-result c =
    let i = c.self.inside in
    let p = c.args.prepared in
    let from : ContextView = c.args.from.value in
    let seen : ContextView = record { core = i.core; rows = i.things.rows.items; renderer = rendering_of i.renderer; standing = i.standing; most = i.renderer.sink.capacity } in
    let made = c.make_frame-frame.new.core in
    let ready = subst (λ (v : ContextView). IsReadied p c.args.dropped from v) (sym c.self.view_is) c.requires.ready in
    let gives = subst (λ (f : Frame). Gives p.work f i.core made) (sym c.begin_on.ensures.frame) c.make_frame-frame.ensures.gives in
    let most = c.most-most.ensures ∙ sym (ap (λ (v : ContextView). v.most) c.self.view_is) in
    (opened_on p c.args.dropped from seen c.begin_on.result.frame made (rendering_of c.begin_on.result.opening) i.things.rows.items c.most-most.result c.self.invariant.0 c.requires.runs ready gives refl most refl c.begin_on.ensures.opening, c.self.invariant.1)
