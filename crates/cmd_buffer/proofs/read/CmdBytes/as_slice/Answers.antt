use Rattle.std.proofs.Common.{ap, ◌∙◌}
use Rattle.gfx_model.specs.Commands.{buffer_bytes}
use Rattle.cmd_buffer.proofs.Again.{buffer_is}
use Rattle.cmd_buffer.proofs.read.CmdBytes.as_slice.Goals as goal

pub returns : goal.returns
returns c = c.deref.ensures.value ∙ buffer_is c.self.inside.bytes.items c.self.invariant ∙ ap buffer_bytes c.self.view_is
