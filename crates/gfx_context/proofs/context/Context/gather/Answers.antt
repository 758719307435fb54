use Rattle.std.proofs.Common.{refl}
use Rattle.hold_table.specs.Seats.{enc_view}
use Rattle.gfx_context.proofs.Linked.{linked_collected}
use Rattle.gfx_context.proofs.Gathers.{seat_still, same_still, gathers_told}
use Rattle.gfx_context.proofs.context.Context.gather.Goals as goal

pub invariant_of-self : goal.invariant_of-self
invariant_of-self g c =
    let b = c.args.bundle in
    let e = c.gather.ensures in
    let was = c.self.inside.core in
    let now = c.gather.new.core in
    linked_collected c.self.invariant now (same_still b.0 (enc_view b.1) was was now e.gathers refl) (seat_still b.0 (enc_view b.1) was was now e.gathers refl) e.admitted

pub returns : goal.returns
returns g c =
    let b = c.args.bundle in
    gathers_told g.C.Naming.admits g.C.Naming.views (g.L.FrameLink.given c.self.inside.link) (g.L.FrameLink.back c.self.inside.link) c.self.inside.link c.self.inside.core c.gather.new.core b.0 (enc_view b.1) c.gather.ensures.gathers _ c.self.view_is
