use Rattle.fix_math.specs.Seen.{rect_seen}
use Rattle.gfx_model.specs.Resources.{set_view_rect}
use Rattle.gfx_context.proofs.Linked.{linked_changes}
use Rattle.gfx_context.proofs.Lifted.{changes_told}
use Rattle.gfx_context.proofs.context.Context.set_view_rect.Goals as goal

pub invariant_of-self : goal.invariant_of-self
invariant_of-self g c = linked_changes c.self.invariant c.set_view_rect.new.self (set_view_rect c.args.view (rect_seen c.args.rect)) c.set_view_rect.result c.set_view_rect.ensures

pub returns : goal.returns
returns g c = changes_told (g.L.FrameLink.given c.self.inside.link) (g.L.FrameLink.back c.self.inside.link) c.self.inside.link c.self.inside.core c.set_view_rect.new.self (set_view_rect c.args.view (rect_seen c.args.rect)) c.set_view_rect.result c.set_view_rect.ensures _ c.self.view_is
