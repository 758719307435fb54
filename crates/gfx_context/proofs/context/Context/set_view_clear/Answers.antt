use Rattle.gfx_model.specs.Resources.{set_view_clear}
use Rattle.gfx_context.proofs.Linked.{linked_changes}
use Rattle.gfx_context.proofs.Lifted.{changes_told}
use Rattle.gfx_context.proofs.context.Context.set_view_clear.Goals as goal

pub invariant_of-self : goal.invariant_of-self
invariant_of-self g c = linked_changes c.self.invariant c.set_view_clear.new.self (set_view_clear c.args.view (record { flags = c.args.flags; color = c.args.color; depth = c.args.depth; stencil = c.args.stencil })) c.set_view_clear.result c.set_view_clear.ensures

pub returns : goal.returns
returns g c = changes_told (g.L.FrameLink.given c.self.inside.link) (g.L.FrameLink.back c.self.inside.link) c.self.inside.link c.self.inside.core c.set_view_clear.new.self (set_view_clear c.args.view (record { flags = c.args.flags; color = c.args.color; depth = c.args.depth; stencil = c.args.stencil })) c.set_view_clear.result c.set_view_clear.ensures _ c.self.view_is
