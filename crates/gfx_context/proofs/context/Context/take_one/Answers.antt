use Rattle.std.proofs.Common.{◌<◌, ◌+◌, Bool, if◌then◌else◌, ap, ◌∙◌, sym, subst, refl}
use Rattle.gfx_context.specs.States.{ContextView}
use Rattle.gfx_context.specs.Ended.{IsBack, note_of}
use Rattle.gfx_context.proofs.Linked.{linked_back}
use Rattle.gfx_context.proofs.Outs.{oldest_number}
use Rattle.gfx_context.proofs.context.Context.take_one.Goals as goal

pub came_back-requires-clause-oldest : goal.came_back-requires-clause-oldest
came_back-requires-clause-oldest g c =
    let s = c.self.inside.core.state in
    let some : 0 < s.out = subst (λ (o : ContextView g.row.L.Denot). 0 < o.out) (sym c.self.view_is) c.requires in
    let number = oldest_number g.C.Naming.admits g.C.Naming.views s.seat.places s.seat.frame (g.L.FrameLink.given c.self.inside.link) (g.L.FrameLink.back c.self.inside.link) s.out (g.L.FrameLink.back c.take_back-back.new.self) c.take_back-back.result c.self.invariant.frames some c.take_back-back.ensures.back in
    number ∙ sym c.tell_facts.ensures.keeps.tied.frame ∙ sym (ap (λ (b : Bool). if b then s.book.resources.frame + 1 else s.book.resources.frame) c.self.invariant.not_given)

pub invariant_of-self : goal.invariant_of-self
invariant_of-self g c =
    let back = c.take_back-back.ensures in
    let some : 0 < c.self.inside.core.state.out = subst (λ (o : ContextView g.row.L.Denot). 0 < o.out) (sym c.self.view_is) c.requires in
    linked_back c.self.invariant c.came_back.new.self (g.L.FrameLink.given c.take_back-back.new.self) (g.L.FrameLink.back c.take_back-back.new.self) c.take_back-back.result (g.L.FrameLink.latency c.take_back-back.new.self) back.latency some c.came_back.ensures back.given back.back

pub returns-clause-back : goal.returns-clause-back
returns-clause-back g c =
    subst (λ (o : ContextView g.row.L.Denot). IsBack (note_of c.take_back-back.result) o.given o.back (g.L.FrameLink.back c.take_back-back.new.self)) c.self.view_is
    (record { rendered = c.take_back-back.result; note = refl; oldest = c.take_back-back.ensures.back })
