use Rattle.std.proofs.Common.{ℕ, ◌+◌, map, refl, ap, ◌∙◌}
use Rattle.std.specs.Prelude.{option_map}
use Rattle.gfx_model.specs.Vertex.{fetch}
use Rattle.tri_cover.specs.Seen.{screen_seen}
use Rattle.view_drawing.specs.Shapes.{placed_by}
use Rattle.view_drawing.proofs.Fronts.{placed_front, none_after}
use Rattle.view_drawing.proofs.Places.{more}
use Rattle.view_drawing.proofs.shapes.place_plain.Goals as goal

pub loop-number-preserved : goal.loop-number-preserved
loop-number-preserved c =
    more (option_map screen_seen) (placed_by c.args.placement.now) (λ (i : ℕ). fetch c.args.vertices.now.layout.now c.args.vertices.now.bytes.now i) c.args.vertices.now.first c.loop-number.number
    c.loop-number.placed.items c.push_vertex.new.placed.items (c.in_ok-push_vertex.ensures.there c.if-not-branch.false) c.loop-number.invariant

pub returns-then-not-branch : goal.returns-then-not-branch
returns-then-not-branch c =
    let none = c.in_ok-push_vertex.ensures.none c.if-not-branch.true in
    placed_front (option_map screen_seen) (placed_by c.args.placement.now) (λ (i : ℕ). fetch c.args.vertices.now.layout.now c.args.vertices.now.bytes.now i) c.args.vertices.now.first c.loop-number.number c.args.vertices.now.count
    c.push_vertex.new.placed.items refl c.loop-number.auto.number-end
    (none_after c.args.vertices.now.layout.now c.args.vertices.now.bytes.now (c.args.vertices.now.first + c.loop-number.number) none.1)
    (ap (map (option_map screen_seen)) none.0 ∙ c.loop-number.invariant)
