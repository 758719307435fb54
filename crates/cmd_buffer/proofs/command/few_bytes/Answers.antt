use Rattle.cmd_buffer.proofs.Again.{few_bytes}
use Rattle.cmd_buffer.proofs.command.few_bytes.Goals as goal

pub returns : goal.returns
returns c = few_bytes
