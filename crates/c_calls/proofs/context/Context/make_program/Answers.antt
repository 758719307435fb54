use Rattle.gfx_words.specs.Seen.{program_seen}
use Rattle.gfx_model.specs.Resources.{create_program}
use Rattle.c_calls.specs.Rendered.{rendering_of}
use Rattle.c_calls.proofs.On.{on_creates}
use Rattle.c_calls.proofs.Told.{creates_told}
use Rattle.c_calls.proofs.context.Context.make_program.Goals as goal

pub invariant_of-self : goal.invariant_of-self
invariant_of-self c = (on_creates c.self.invariant.0 c.create_program-answer.new.self (create_program (program_seen c.args.kind)) c.create_program-answer.result c.create_program-answer.ensures.answer, c.self.invariant.1)

pub returns : goal.returns
returns c = creates_told c.self.inside.things.rows.items (rendering_of c.self.inside.renderer) c.self.inside.standing c.self.inside.renderer.sink.capacity c.self.inside.core c.create_program-answer.new.self (create_program (program_seen c.args.kind)) c.keep.result c.create_program-answer.result c.keep.new.self c.keep.ensures.told c.create_program-answer.ensures.answer c.keep.ensures.given _ c.self.view_is
