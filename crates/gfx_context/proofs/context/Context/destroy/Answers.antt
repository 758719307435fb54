use Rattle.gfx_context.proofs.Linked.{linked_destroys}
use Rattle.gfx_context.proofs.Lifted.{destroys_told}
use Rattle.gfx_context.proofs.context.Context.destroy.Goals as goal

pub invariant_of-self : goal.invariant_of-self
invariant_of-self g c = linked_destroys c.self.invariant c.destroy.new.self c.args.h c.destroy.result c.destroy.ensures.answer c.destroy.ensures.stays

pub returns : goal.returns
returns g c = destroys_told (g.L.FrameLink.given c.self.inside.link) (g.L.FrameLink.back c.self.inside.link) c.self.inside.link c.self.inside.core c.destroy.new.self c.args.h c.destroy.result c.destroy.ensures.answer _ c.self.view_is
