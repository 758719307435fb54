use Rattle.std.proofs.Common.{sym, ap, ◌∙◌, ◌+◌, ◌*◌, w32, rules}
use Rattle.std.proofs.lemmas.Int.{to_z-of_z}
use Rattle.gfx_model.specs.Vertex.{fixed_at}
use Rattle.vertex_layout.specs.Kinds.{component_seen}
use Rattle.vertex_layout.specs.Placed.{placed_seen}
use Rattle.vertex_layout.proofs.FetchLaws.{component_there}
use Rattle.vertex_layout.proofs.fetch.component.Goals as goal

pub returns : goal.returns
returns c =
    to_z-of_z w32 c.fixed_at.result (search rules)
    ∙ c.fixed_at.ensures
    ∙ ap (λ size. fixed_at (component_seen c.args.placed.now.kind) c.args.bytes.now (c.args.at + c.args.placed.now.offset + size * c.args.number)) c.size.ensures
    ∙ sym (component_there (placed_seen c.args.placed.now) c.args.bytes.now c.args.at c.args.number c.requires.few)
