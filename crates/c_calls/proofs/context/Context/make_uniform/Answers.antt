use Rattle.gfx_words.specs.Seen.{uniform_seen}
use Rattle.gfx_model.specs.Resources.{create_uniform}
use Rattle.c_calls.specs.Rendered.{rendering_of}
use Rattle.c_calls.proofs.On.{on_creates}
use Rattle.c_calls.proofs.Told.{creates_told}
use Rattle.c_calls.proofs.context.Context.make_uniform.Goals as goal

pub invariant_of-self : goal.invariant_of-self
invariant_of-self c = (on_creates c.self.invariant.0 c.create_uniform-answer.new.self (create_uniform c.args.name.now (uniform_seen c.args.kind)) c.create_uniform-answer.result c.create_uniform-answer.ensures.answer, c.self.invariant.1)

pub returns : goal.returns
returns c = creates_told c.self.inside.things.rows.items (rendering_of c.self.inside.renderer) c.self.inside.standing c.self.inside.renderer.sink.capacity c.self.inside.core c.create_uniform-answer.new.self (create_uniform c.args.name.now (uniform_seen c.args.kind)) c.keep.result c.create_uniform-answer.result c.keep.new.self c.keep.ensures.told c.create_uniform-answer.ensures.answer c.keep.ensures.given _ c.self.view_is
