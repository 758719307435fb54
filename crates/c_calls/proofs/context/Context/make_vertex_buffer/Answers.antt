use Rattle.gfx_model.specs.Resources.{create_vertex_buffer}
use Rattle.c_calls.specs.Rendered.{rendering_of}
use Rattle.c_calls.proofs.On.{on_creates}
use Rattle.c_calls.proofs.Told.{creates_told}
use Rattle.c_calls.proofs.context.Context.make_vertex_buffer.Goals as goal

pub invariant_of-self : goal.invariant_of-self
invariant_of-self c = (on_creates c.self.invariant.0 c.create_vertex_buffer-answer.new.self (create_vertex_buffer c.args.layout c.args.bytes.now) c.create_vertex_buffer-answer.result c.create_vertex_buffer-answer.ensures.answer, c.self.invariant.1)

pub returns : goal.returns
returns c = creates_told c.self.inside.things.rows.items (rendering_of c.self.inside.renderer) c.self.inside.standing c.self.inside.renderer.sink.capacity c.self.inside.core c.create_vertex_buffer-answer.new.self (create_vertex_buffer c.args.layout c.args.bytes.now) c.keep.result c.create_vertex_buffer-answer.result c.keep.new.self c.keep.ensures.told c.create_vertex_buffer-answer.ensures.answer c.keep.ensures.given _ c.self.view_is
