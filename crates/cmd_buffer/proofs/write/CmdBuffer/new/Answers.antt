use Rattle.cmd_buffer.proofs.Again.{no_commands}
use Rattle.cmd_buffer.proofs.write.CmdBuffer.new.Goals as goal

pub returns : goal.returns
returns c = no_commands c.new.result.items c.new.ensures.items
