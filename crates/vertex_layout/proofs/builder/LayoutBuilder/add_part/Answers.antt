use Rattle.std.proofs.Common.{◌++◌, ◌∷◌, [], cond, sym, ap, ◌∙◌, arith}
use Rattle.std.specs.List.{list_all}
use Rattle.gfx_model.specs.Vertex.{PlacedAttribute}
use Rattle.vertex_layout.specs.Kinds.{attribute_seen, component_seen}
use Rattle.vertex_layout.specs.Placed.{ends_within}
use Rattle.vertex_layout.proofs.BuildLaws.{within_more}
use Rattle.vertex_layout.proofs.builder.LayoutBuilder.add_part.Goals as goal

pub invariant_of-self-then-add : goal.invariant_of-self-then-add
invariant_of-self-then-add c =
    let p : PlacedAttribute = record { attribute = attribute_seen c.args.attr; component = component_seen c.args.kind; count = c.args.count; offset = c.self.inside.stride } in
    ap (list_all (ends_within c.end-end.result)) (c.add.ensures.added ∙ ap (λ b. cond b (c.self.inside.attributes ++ p ∷ []) c.self.inside.attributes) (sym c.add.ensures.answer ∙ c.if-add.true))
    ∙ within_more c.self.inside.stride c.end-end.result c.self.inside.attributes p (omega (arith, c.end-end.ensures)) c.end-end.ensures c.self.invariant
