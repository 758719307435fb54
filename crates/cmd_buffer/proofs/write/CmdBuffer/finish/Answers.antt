use Rattle.std.proofs.Common.{ap, ◌∙◌}
use Rattle.cmd_buffer.proofs.Again.{buffer_ended, commands_ended}
use Rattle.cmd_buffer.proofs.write.CmdBuffer.finish.Goals as goal

pub from_bytes-requires : goal.from_bytes-requires
from_bytes-requires c = buffer_ended c.self.inside.bytes.items c.push.new.self.items c.self.invariant c.in_ok-push.ensures.items

pub returns-clause-commands : goal.returns-clause-commands
returns-clause-commands c =
    c.from_bytes.ensures ∙ commands_ended c.self.inside.bytes.items c.push.new.self.items c.self.invariant c.in_ok-push.ensures.items ∙ ap (λ w. w.commands) c.self.view_is
