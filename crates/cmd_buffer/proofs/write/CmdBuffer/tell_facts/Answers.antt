use Rattle.std.proofs.Common.{ap, subst}
use Rattle.cmd_buffer.specs.Rows.{AllFit}
use Rattle.cmd_buffer.proofs.Again.{fitting}
use Rattle.cmd_buffer.proofs.write.CmdBuffer.tell_facts.Goals as goal

pub returns : goal.returns
returns c = subst AllFit (ap (λ w. w.commands) c.self.view_is) (fitting c.self.inside.bytes.items c.self.invariant)
