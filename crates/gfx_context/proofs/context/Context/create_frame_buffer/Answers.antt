use Rattle.gfx_model.specs.Resources.{create_frame_buffer}
use Rattle.gfx_context.proofs.Linked.{linked_creates}
use Rattle.gfx_context.proofs.Lifted.{creates_told}
use Rattle.gfx_context.proofs.context.Context.create_frame_buffer.Goals as goal

pub invariant_of-self : goal.invariant_of-self
invariant_of-self g c = linked_creates c.self.invariant c.create_frame_buffer.new.self (create_frame_buffer c.args.color c.args.depth) c.create_frame_buffer.result c.create_frame_buffer.ensures.answer c.create_frame_buffer.ensures.stays

pub returns : goal.returns
returns g c = creates_told (g.L.FrameLink.given c.self.inside.link) (g.L.FrameLink.back c.self.inside.link) c.self.inside.link c.self.inside.core c.create_frame_buffer.new.self (create_frame_buffer c.args.color c.args.depth) c.create_frame_buffer.result c.create_frame_buffer.ensures.answer _ c.self.view_is
