use Rattle.std.proofs.Common.{◌++◌, ◌∷◌, [], ap, ◌∙◌}
use Rattle.cmd_buffer.specs.Seen.{command_seen}
use Rattle.cmd_buffer.proofs.Again.{row_more, commands_more}
use Rattle.cmd_buffer.proofs.write.CmdBuffer.write.Goals as goal

pub invariant_of-self-2 : goal.invariant_of-self-2
invariant_of-self-2 c = row_more c.self.inside.bytes.items c.append.new.bytes.items (command_seen c.args.command) c.self.invariant c.in_ok-append.ensures.fits c.in_ok-append.ensures.bytes

pub returns-clause-written : goal.returns-clause-written
returns-clause-written c =
    commands_more c.self.inside.bytes.items c.append.new.bytes.items (command_seen c.args.command) c.self.invariant c.in_ok-append.ensures.fits c.in_ok-append.ensures.bytes
    ∙ ap (λ w. w.commands ++ command_seen c.args.command ∷ []) c.self.view_is
