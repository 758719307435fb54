use Rattle.gfx_model.specs.Resources.{update_buffer}
use Rattle.gfx_context.proofs.Linked.{linked_updates}
use Rattle.gfx_context.proofs.Lifted.{updates_told}
use Rattle.gfx_context.proofs.context.Context.update_buffer.Goals as goal

pub invariant_of-self : goal.invariant_of-self
invariant_of-self g c = linked_updates c.self.invariant c.update_buffer.new.self (update_buffer c.args.buffer c.args.offset c.args.bytes.now) c.update_buffer.result c.update_buffer.ensures

pub returns : goal.returns
returns g c = updates_told (g.L.FrameLink.given c.self.inside.link) (g.L.FrameLink.back c.self.inside.link) c.self.inside.link c.self.inside.core c.update_buffer.new.self (update_buffer c.args.buffer c.args.offset c.args.bytes.now) c.update_buffer.result c.update_buffer.ensures _ c.self.view_is
