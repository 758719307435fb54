use Rattle.gfx_model.specs.Resources.{reset_view}
use Rattle.gfx_context.proofs.Linked.{linked_changes}
use Rattle.gfx_context.proofs.Lifted.{changes_told}
use Rattle.gfx_context.proofs.context.Context.reset_view.Goals as goal

pub invariant_of-self : goal.invariant_of-self
invariant_of-self g c = linked_changes c.self.invariant c.reset_view.new.self (reset_view c.args.view) c.reset_view.result c.reset_view.ensures

pub returns : goal.returns
returns g c = changes_told (g.L.FrameLink.given c.self.inside.link) (g.L.FrameLink.back c.self.inside.link) c.self.inside.link c.self.inside.core c.reset_view.new.self (reset_view c.args.view) c.reset_view.result c.reset_view.ensures _ c.self.view_is
