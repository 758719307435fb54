use Rattle.std.proofs.Common.{◌<◌, ◌≡◌, [], sym, subst, ap, ◌∙◌, arith}
use Rattle.context_core.specs.States.{CoreView}
use Rattle.context_core.proofs.Ends.{gives_both, keeps_both}
use Rattle.gfx_context.specs.States.{ContextView}
use Rattle.gfx_context.proofs.Linked.{linked_ended, linked_given}
use Rattle.gfx_context.proofs.Finish.{made_none, made_some, finishes_none, finishes_some}
use Rattle.gfx_context.proofs.context.Context.finish.Goals as goal

pub give-requires : goal.give-requires
give-requires g c =
    let f = made_some c.args.given c.args.prepared.work c.make-frame.result.frame c.in-Some.frame c.self.inside.core c.make-frame.new.self c.in-Some.is c.make-frame.ensures.answer in
    let few : c.self.inside.core.state.out < c.self.inside.core.state.book.resources.latency = subst (λ (o : ContextView g.row.L.Denot). o.out < o.book.resources.latency) (sym c.self.view_is) (c.requires.out f.0) in
    let counted = c.self.invariant.frames.counted in
    let late = c.self.invariant.latency_is in
    record { room = omega (arith, few, counted, late) }

pub start_next-requires-clause-table : goal.start_next-requires-clause-table
start_next-requires-clause-table g c =
    let f = made_some c.args.given c.args.prepared.work c.make-frame.result.frame c.in-Some.frame c.self.inside.core c.make-frame.new.self c.in-Some.is c.make-frame.ensures.answer in
    ap (λ (x : CoreView). x.table) f.1.same ∙ c.self.invariant.table_is ∙ sym c.table.ensures

pub start_next-requires-clause-made : goal.start_next-requires-clause-made
start_next-requires-clause-made g c =
    let f = made_some c.args.given c.args.prepared.work c.make-frame.result.frame c.in-Some.frame c.self.inside.core c.make-frame.new.self c.in-Some.is c.make-frame.ensures.answer in
    ap (λ (x : CoreView). x.state.is_given) f.1.same

pub start_next-requires-clause-given : goal.start_next-requires-clause-given
start_next-requires-clause-given g c =
    let f = made_some c.args.given c.args.prepared.work c.make-frame.result.frame c.in-Some.frame c.self.inside.core c.make-frame.new.self c.in-Some.is c.make-frame.ensures.answer in
    (g.L.FrameLink.given c.self.inside.link, c.in-Some.frame, c.give.ensures.given, f.1.is_of.number ∙ sym (ap (λ (x : CoreView). x.state.book.resources.frame) f.1.same))

pub start_next-requires-clause-taken : goal.start_next-requires-clause-taken
start_next-requires-clause-taken g c =
    let f = made_some c.args.given c.args.prepared.work c.make-frame.result.frame c.in-Some.frame c.self.inside.core c.make-frame.new.self c.in-Some.is c.make-frame.ensures.answer in
    ap (λ (x : CoreView). x.state.book.post) f.1.same ∙ ap (λ (o : ContextView g.row.L.Denot). o.book.post) c.self.view_is ∙ c.requires.taken.1

pub invariant_of-self : goal.invariant_of-self
invariant_of-self g c =
    linked_ended c.self.invariant c.make-frame.new.self (made_none c.args.given c.args.prepared.work c.make-frame.result.frame c.self.inside.core c.make-frame.new.self c.in-None.is c.make-frame.ensures.answer).1

pub invariant_of-self-in-Some : goal.invariant_of-self-in-Some
invariant_of-self-in-Some g c =
    let f = made_some c.args.given c.args.prepared.work c.make-frame.result.frame c.in-Some.frame c.self.inside.core c.make-frame.new.self c.in-Some.is c.make-frame.ensures.answer in
    let s = c.start_next.ensures in
    let taken = subst (λ (o : ContextView g.row.L.Denot). (o.book.pre ≡ []) × (o.book.post ≡ []) × (o.book.payloads ≡ [])) (sym c.self.view_is) c.requires.taken in
    let gives = gives_both c.args.prepared.work c.in-Some.frame c.self.inside.core c.make-frame.new.self c.start_next.new.core f.1 s.starts taken in
    let stays = keeps_both c.args.prepared.work c.in-Some.frame c.self.inside.core c.make-frame.new.self c.start_next.new.core f.1 s.starts s.stays in
    let few : c.self.inside.core.state.out < c.self.inside.core.state.book.resources.latency = subst (λ (o : ContextView g.row.L.Denot). o.out < o.book.resources.latency) (sym c.self.view_is) (c.requires.out f.0) in
    linked_given c.self.invariant c.start_next.new.core c.tell_facts.ensures.keeps c.args.prepared.work c.in-Some.frame gives stays few (g.L.FrameLink.given c.give.new.self) (g.L.FrameLink.back c.give.new.self) (g.L.FrameLink.latency c.give.new.self)
    c.give.ensures.given c.give.ensures.back c.give.ensures.latency

pub returns-in-None-clause-finishes : goal.returns-in-None-clause-finishes
returns-in-None-clause-finishes g c =
    finishes_none c.args.given c.args.prepared.work c.self.inside.core c.make-frame.new.self c.args.self.now (g.L.FrameLink.given c.self.inside.link) (g.L.FrameLink.back c.self.inside.link) c.self.inside.link
    (made_none c.args.given c.args.prepared.work c.make-frame.result.frame c.self.inside.core c.make-frame.new.self c.in-None.is c.make-frame.ensures.answer) c.self.view_is

pub returns-in-Some-clause-finishes : goal.returns-in-Some-clause-finishes
returns-in-Some-clause-finishes g c =
    let f = made_some c.args.given c.args.prepared.work c.make-frame.result.frame c.in-Some.frame c.self.inside.core c.make-frame.new.self c.in-Some.is c.make-frame.ensures.answer in
    let taken = subst (λ (o : ContextView g.row.L.Denot). (o.book.pre ≡ []) × (o.book.post ≡ []) × (o.book.payloads ≡ [])) (sym c.self.view_is) c.requires.taken in
    let gives = gives_both c.args.prepared.work c.in-Some.frame c.self.inside.core c.make-frame.new.self c.start_next.new.core f.1 c.start_next.ensures.starts taken in
    finishes_some c.args.given c.args.prepared.work c.self.inside.core c.start_next.new.core c.args.self.now c.in-Some.frame (g.L.FrameLink.given c.self.inside.link) (g.L.FrameLink.given c.give.new.self)
    (g.L.FrameLink.back c.self.inside.link) (g.L.FrameLink.back c.give.new.self) c.self.inside.link c.give.new.self
    (f.0, gives) c.give.ensures.given c.give.ensures.back c.self.view_is
