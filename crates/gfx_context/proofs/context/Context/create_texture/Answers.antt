use Rattle.gfx_words.specs.Kinds.{format_seen}
use Rattle.texture_store.specs.Seen.{own_source_seen}
use Rattle.gfx_model.specs.Resources.{create_texture}
use Rattle.gfx_context.proofs.Linked.{linked_creates}
use Rattle.gfx_context.proofs.Lifted.{creates_told}
use Rattle.gfx_context.proofs.context.Context.create_texture.Goals as goal

pub invariant_of-self : goal.invariant_of-self
invariant_of-self g c = linked_creates c.self.invariant c.create_texture.new.self (create_texture c.args.width c.args.height (format_seen c.args.format) c.args.blit_dst (own_source_seen c.args.source)) c.create_texture.result c.create_texture.ensures.answer c.create_texture.ensures.stays

pub returns : goal.returns
returns g c = creates_told (g.L.FrameLink.given c.self.inside.link) (g.L.FrameLink.back c.self.inside.link) c.self.inside.link c.self.inside.core c.create_texture.new.self (create_texture c.args.width c.args.height (format_seen c.args.format) c.args.blit_dst (own_source_seen c.args.source)) c.create_texture.result c.create_texture.ensures.answer _ c.self.view_is
