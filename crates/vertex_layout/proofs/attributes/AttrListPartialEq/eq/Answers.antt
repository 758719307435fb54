use Rattle.std.proofs.Common.{rules, ap, sym, ◌∙◌, ◌≡◌, List}
use Rattle.gfx_model.specs.Vertex.{PlacedAttribute}
use Rattle.vertex_layout.specs.declared.attributes.AttrList.TheInside.{Inside}
use Rattle.vertex_layout.specs.Slots.{view_of, IsInside, inside_of, inside_of-view}
use Rattle.vertex_layout.proofs.attributes.AttrListPartialEq.eq.Goals as goal

slots_of : (s : Inside) (v : List PlacedAttribute) → view_of s ≡ v → IsInside s → (inside_of v).slots ≡ s.slots
slots_of s v e h = ap (λ (w : List PlacedAttribute). (inside_of w).slots) (sym e) ∙ ap (λ (t : Inside). t.slots) (inside_of-view s h)

count_of : (s : Inside) (v : List PlacedAttribute) → view_of s ≡ v → IsInside s → (inside_of v).count ≡ s.count
count_of s v e h = ap (λ (w : List PlacedAttribute). (inside_of w).count) (sym e) ∙ ap (λ (t : Inside). t.count) (inside_of-view s h)

pub returns : goal.returns
returns c = grind (rules, slots_of, count_of)
