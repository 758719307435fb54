use Rattle.gfx_words.specs.Seen.{format_seen, own_source_seen}
use Rattle.gfx_model.specs.Resources.{create_texture}
use Rattle.c_calls.specs.Rendered.{rendering_of}
use Rattle.c_calls.proofs.On.{on_creates}
use Rattle.c_calls.proofs.Told.{creates_told}
use Rattle.c_calls.proofs.context.Context.make_texture.Goals as goal

pub invariant_of-self : goal.invariant_of-self
invariant_of-self c = (on_creates c.self.invariant.0 c.create_texture-answer.new.self (create_texture c.args.of.width c.args.of.height (format_seen c.args.of.format) c.args.of.blit_dst (own_source_seen c.args.source)) c.create_texture-answer.result c.create_texture-answer.ensures.answer, c.self.invariant.1)

pub returns : goal.returns
returns c = creates_told c.self.inside.things.rows.items (rendering_of c.self.inside.renderer) c.self.inside.standing c.self.inside.renderer.sink.capacity c.self.inside.core c.create_texture-answer.new.self (create_texture c.args.of.width c.args.of.height (format_seen c.args.of.format) c.args.of.blit_dst (own_source_seen c.args.source)) c.keep.result c.create_texture-answer.result c.keep.new.self c.keep.ensures.told c.create_texture-answer.ensures.answer c.keep.ensures.given _ c.self.view_is
