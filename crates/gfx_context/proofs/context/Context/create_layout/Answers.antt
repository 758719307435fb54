use Rattle.gfx_model.specs.Resources.{create_layout}
use Rattle.gfx_context.proofs.Linked.{linked_creates}
use Rattle.gfx_context.proofs.Lifted.{creates_told}
use Rattle.gfx_context.proofs.context.Context.create_layout.Goals as goal

pub invariant_of-self : goal.invariant_of-self
invariant_of-self g c = linked_creates c.self.invariant c.create_layout.new.self (create_layout c.args.layout) c.create_layout.result c.create_layout.ensures.answer c.create_layout.ensures.stays

pub returns : goal.returns
returns g c = creates_told (g.L.FrameLink.given c.self.inside.link) (g.L.FrameLink.back c.self.inside.link) c.self.inside.link c.self.inside.core c.create_layout.new.self (create_layout c.args.layout) c.create_layout.result c.create_layout.ensures.answer _ c.self.view_is
