use Rattle.std.proofs.Common.{ap, ◌∙◌, ◌++◌, ◌∷◌, []}
use Rattle.vertex_layout.specs.Placed.{placed_seen, is_addable}
use Rattle.vertex_layout.proofs.SlotLaws.{has_slot, view_pushed, inside_pushed}
use Rattle.vertex_layout.proofs.attributes.AttrList.push.Goals as goal

pub bounds-self-inside-self-inside : goal.bounds-self-inside-self-inside
bounds-self-inside-self-inside c = has_slot c.self.inside (placed_seen c.args.placed) c.self.invariant (ap (is_addable (placed_seen c.args.placed)) c.self.view_is ∙ c.requires)

pub invariant_of-self : goal.invariant_of-self
invariant_of-self c = inside_pushed c.self.inside c.args.placed c.self.invariant (ap (is_addable (placed_seen c.args.placed)) c.self.view_is ∙ c.requires)

pub returns : goal.returns
returns c =
    view_pushed c.self.inside c.args.placed c.self.invariant (has_slot c.self.inside (placed_seen c.args.placed) c.self.invariant (ap (is_addable (placed_seen c.args.placed)) c.self.view_is ∙ c.requires))
    ∙ ap (λ ps. ps ++ placed_seen c.args.placed ∷ []) c.self.view_is
