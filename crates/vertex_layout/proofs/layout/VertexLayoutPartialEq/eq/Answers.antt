use Rattle.std.proofs.Common.{rules, ap, sym, ◌∙◌, ◌≡◌}
use Rattle.gfx_model.specs.Vertex.{Layout}
use Rattle.vertex_layout.specs.declared.layout.VertexLayout.TheInside.{Inside}
use Rattle.vertex_layout.specs.Inner.{view_of, IsInside, inside_of, inside_of-view}
use Rattle.vertex_layout.proofs.layout.VertexLayoutPartialEq.eq.Goals as goal

attributes_of : (s : Inside) (l : Layout) → view_of s ≡ l → l.attributes ≡ s.attributes
attributes_of s l e = ap (λ (m : Layout). m.attributes) (sym e)

stride_of : (s : Inside) (l : Layout) → view_of s ≡ l → l.stride ≡ s.stride
stride_of s l e = ap (λ (m : Layout). m.stride) (sym e)

position_of : (s : Inside) (l : Layout) → view_of s ≡ l → IsInside s → (inside_of l).position ≡ s.position
position_of s l e h = ap (λ (m : Layout). (inside_of m).position) (sym e) ∙ ap (λ (t : Inside). t.position) (inside_of-view s h)

color_of : (s : Inside) (l : Layout) → view_of s ≡ l → IsInside s → (inside_of l).color ≡ s.color
color_of s l e h = ap (λ (m : Layout). (inside_of m).color) (sym e) ∙ ap (λ (t : Inside). t.color) (inside_of-view s h)

texcoord_of : (s : Inside) (l : Layout) → view_of s ≡ l → IsInside s → (inside_of l).texcoord ≡ s.texcoord
texcoord_of s l e h = ap (λ (m : Layout). (inside_of m).texcoord) (sym e) ∙ ap (λ (t : Inside). t.texcoord) (inside_of-view s h)

pub returns : goal.returns
returns c = grind (rules, attributes_of, stride_of, position_of, color_of, texcoord_of)
