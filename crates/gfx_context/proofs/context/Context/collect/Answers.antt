use Rattle.gfx_context.proofs.Linked.{linked_collected}
use Rattle.gfx_context.proofs.Gathers.{collects_told}
use Rattle.gfx_context.proofs.context.Context.collect.Goals as goal

pub invariant_of-self : goal.invariant_of-self
invariant_of-self g c = let e = c.gather_all.ensures in linked_collected c.self.invariant c.gather_all.new.core e.same e.seat e.admitted

pub returns : goal.returns
returns g c =
    let e = c.gather_all.ensures in
    collects_told g.C.Naming.admits g.C.Naming.views (g.L.FrameLink.given c.self.inside.link) (g.L.FrameLink.back c.self.inside.link) c.self.inside.link c.self.inside.core c.gather_all.new.core
    e.none_off e.kept e.seat e.same e.recordings _ c.self.view_is
