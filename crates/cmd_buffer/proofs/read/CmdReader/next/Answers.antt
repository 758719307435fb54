use Rattle.std.proofs.Common.{◌≡◌, sym, ◌∙◌}
use Rattle.cmd_buffer.specs.Seen.{command_seen}
use Rattle.cmd_buffer.proofs.Shorter.{commands_some, commands_none}
use Rattle.cmd_buffer.proofs.read.CmdReader.next.Goals as goal

pub returns-in-Some : goal.returns-in-Some
returns-in-Some c = sym c.self.view_is ∙ commands_some c.self.inside.rest.now (command_seen c.in-Some.command) c.in-Some.rest.now (sym c.in-Some.ensures)

pub returns-in-None : goal.returns-in-None
returns-in-None c =
    let none : c.args.self.now ≡ _ = sym c.self.view_is ∙ commands_none c.self.inside.rest.now (sym c.in-None.ensures) in
    (none, none)
