use Rattle.std.proofs.Common.{[], ◌∷◌, ap, ◌∙◌, arith, subst, sym}
use Rattle.hold_table.specs.Views.{SeatView}
use Rattle.gfx_context.specs.Ended.{Closes}
use Rattle.gfx_context.specs.States.{ContextView}
use Rattle.gfx_context.proofs.Gathers.{collected_all}
use Rattle.gfx_context.proofs.Closings.{closes_told, latency_told}
use Rattle.gfx_context.proofs.context.Context.close.Goals as goal

pub returns-clause-closes : goal.returns-clause-closes
returns-clause-closes g c =
    let k = c.tell_facts.ensures.keeps in
    let all = collected_all g.C.Naming.admits g.C.Naming.views c.args.self k c.requires.none_off in
    let notes = c.take_next-first.result ∷ c.take_next-second.result ∷ c.take_next-third.result ∷ [] in
    subst (λ (seat : SeatView). Closes c.args.self (g.L.FrameLink.given c.context.inside.link) (g.L.FrameLink.back c.context.inside.link) seat notes) (sym c.into_seat.ensures.seat)
    (closes_told g.C.Naming.admits g.C.Naming.views c.args.self c.args.self c.take_next-first.new.self c.take_next-second.new.self c.take_next-third.new.self _ c.take_next-first.result c.take_next-second.result c.take_next-third.result all
    (let a = k.few in let b = k.latency.1 in omega (arith, a, b)) c.take_next-first.ensures.takes c.take_next-second.ensures.takes c.take_next-third.ensures.takes c.context.invariant.frames c.context.view_is)

pub returns-clause-link : goal.returns-clause-link
returns-clause-link g c =
    let k = c.tell_facts.ensures.keeps in
    let all = collected_all g.C.Naming.admits g.C.Naming.views c.args.self k c.requires.none_off in
    let latency = latency_told g.C.Naming.admits g.C.Naming.views c.args.self c.args.self c.take_next-first.new.self c.take_next-second.new.self c.take_next-third.new.self _ c.take_next-first.result c.take_next-second.result c.take_next-third.result all
    (let a = k.few in let b = k.latency.1 in omega (arith, a, b)) c.take_next-first.ensures.takes c.take_next-second.ensures.takes c.take_next-third.ensures.takes c.context.invariant.frames c.context.view_is in
    let origin = λ (x : ContextView g.row.L.Denot). g.L.FrameLink.origin x.link in (
      c.context.invariant.latency_is ∙ latency,
      ap origin c.context.view_is ∙ c.take_next-third.ensures.origin ∙ c.take_next-second.ensures.origin ∙ c.take_next-first.ensures.origin,
    )
