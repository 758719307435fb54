use Rattle.std.proofs.Common.{◌≡◌, length, sym, ap, ◌∙◌, arith}
use Rattle.std.proofs.lemmas.List.{length-map}
use Rattle.vertex_layout.specs.Placed.{placed_seen}
use Rattle.cmd_buffer.proofs.Again.{length_layout}
use Rattle.cmd_buffer.proofs.command.Command.size.Goals as goal

pub returns-in-CreateLayout-clause-size : goal.returns-in-CreateLayout-clause-size
returns-in-CreateLayout-clause-size c =
    let many : length c.attributes.result.now ≡ length c.in-CreateLayout.layout.attributes
    = sym (length-map c.attributes.result.now placed_seen) ∙ ap length c.attributes.ensures.items in
    rw c.in-CreateLayout.is (omega (arith, many, length_layout c.in-CreateLayout.layout.attributes c.in-CreateLayout.layout.stride))
