use Rattle.std.proofs.Common.{ap, ◌∙◌}
use Rattle.gfx_context.specs.States.{ContextView}
use Rattle.gfx_context.proofs.Closings.{closes_collected}
use Rattle.gfx_context.proofs.context.Context.shutdown.Goals as goal

pub returns-clause-closes : goal.returns-clause-closes
returns-clause-closes g c = closes_collected g.C.Naming.admits g.C.Naming.views c.args.self c.collect.new.self _ _ _ _ c.collect.ensures c.close.ensures.closes

pub returns-clause-link : goal.returns-clause-link
returns-clause-link g c =
    let same = c.collect.ensures.same in (
      c.close.ensures.link.0 ∙ ap (λ (x : ContextView g.row.L.Denot). x.book.resources.latency) same,
      c.close.ensures.link.1 ∙ ap (λ (x : ContextView g.row.L.Denot). g.L.FrameLink.origin x.link) same,
    )
