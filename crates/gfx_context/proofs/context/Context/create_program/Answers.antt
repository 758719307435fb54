use Rattle.gfx_words.specs.Kinds.{program_seen}
use Rattle.gfx_model.specs.Resources.{create_program}
use Rattle.gfx_context.proofs.Linked.{linked_creates}
use Rattle.gfx_context.proofs.Lifted.{creates_told}
use Rattle.gfx_context.proofs.context.Context.create_program.Goals as goal

pub invariant_of-self : goal.invariant_of-self
invariant_of-self g c = linked_creates c.self.invariant c.create_program.new.self (create_program (program_seen c.args.kind)) c.create_program.result c.create_program.ensures.answer c.create_program.ensures.stays

pub returns : goal.returns
returns g c = creates_told (g.L.FrameLink.given c.self.inside.link) (g.L.FrameLink.back c.self.inside.link) c.self.inside.link c.self.inside.core c.create_program.new.self (create_program (program_seen c.args.kind)) c.create_program.result c.create_program.ensures.answer _ c.self.view_is
