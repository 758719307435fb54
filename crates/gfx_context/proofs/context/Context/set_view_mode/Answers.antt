use Rattle.gfx_words.specs.Seen.{mode_seen}
use Rattle.gfx_model.specs.Resources.{set_view_mode}
use Rattle.gfx_context.proofs.Linked.{linked_changes}
use Rattle.gfx_context.proofs.Lifted.{changes_told}
use Rattle.gfx_context.proofs.context.Context.set_view_mode.Goals as goal

pub invariant_of-self : goal.invariant_of-self
invariant_of-self g c = linked_changes c.self.invariant c.set_view_mode.new.self (set_view_mode c.args.view (mode_seen c.args.mode)) c.set_view_mode.result c.set_view_mode.ensures

pub returns : goal.returns
returns g c = changes_told (g.L.FrameLink.given c.self.inside.link) (g.L.FrameLink.back c.self.inside.link) c.self.inside.link c.self.inside.core c.set_view_mode.new.self (set_view_mode c.args.view (mode_seen c.args.mode)) c.set_view_mode.result c.set_view_mode.ensures _ c.self.view_is
