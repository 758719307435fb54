use Rattle.fix_math.specs.Seen.{rect_seen}
use Rattle.gfx_model.specs.Resources.{update_texture}
use Rattle.gfx_context.proofs.Linked.{linked_updates}
use Rattle.gfx_context.proofs.Lifted.{updates_told}
use Rattle.gfx_context.proofs.context.Context.update_texture.Goals as goal

pub invariant_of-self : goal.invariant_of-self
invariant_of-self g c = linked_updates c.self.invariant c.update_texture.new.self (update_texture c.args.texture (rect_seen c.args.rect) c.args.bytes.now) c.update_texture.result c.update_texture.ensures

pub returns : goal.returns
returns g c = updates_told (g.L.FrameLink.given c.self.inside.link) (g.L.FrameLink.back c.self.inside.link) c.self.inside.link c.self.inside.core c.update_texture.new.self (update_texture c.args.texture (rect_seen c.args.rect) c.args.bytes.now) c.update_texture.result c.update_texture.ensures _ c.self.view_is
