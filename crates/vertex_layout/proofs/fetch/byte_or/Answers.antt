use Rattle.std.proofs.Common.{sym, ap, ◌∙◌, w32, rules}
use Rattle.std.proofs.lemmas.Int.{to_z-of_z}
use Rattle.gfx_model.specs.Vertex.{byte_of_fixed}
use Rattle.vertex_layout.specs.Placed.{placed_seen}
use Rattle.vertex_layout.proofs.FetchLaws.{byte_there, byte_gone}
use Rattle.vertex_layout.proofs.fetch.byte_or.Goals as goal

pub returns-then-number-placed : goal.returns-then-number-placed
returns-then-number-placed c =
    c.byte_of_fixed.ensures ∙ ap byte_of_fixed (to_z-of_z w32 c.component.result (search rules) ∙ c.component.ensures)
    ∙ sym (byte_there c.args.missing (placed_seen c.args.placed.now) c.args.bytes.now c.args.at c.args.number c.if-number-placed.true)

pub returns-else-number-placed : goal.returns-else-number-placed
returns-else-number-placed c = sym (byte_gone c.args.missing (placed_seen c.args.placed.now) c.args.bytes.now c.args.at c.args.number c.if-number-placed.false)
