use Rattle.std.proofs.Common.{ap, subst}
use Rattle.cmd_buffer.specs.Rows.{AllFit}
use Rattle.cmd_buffer.proofs.Again.{fitting_buffer}
use Rattle.cmd_buffer.proofs.read.CmdBytes.tell_facts.Goals as goal

pub returns : goal.returns
returns c = subst AllFit (c.self.view_is) (fitting_buffer c.self.inside.bytes.items c.self.invariant)
