use Rattle.std.proofs.Common.{ℕ, ◌+◌, refl, sym, ap, ◌∙◌, ◌++◌, ◌∷◌, [], map}
use Rattle.std.specs.Prelude.{option_map}
use Rattle.gfx_model.specs.Vertex.{index_at, indexed_vertex}
use Rattle.tri_cover.specs.Seen.{screen_seen}
use Rattle.view_drawing.specs.Ranges.{vertex_range_seen}
use Rattle.view_drawing.specs.Shapes.{placed_by}
use Rattle.view_drawing.proofs.Fronts.{placed_front, no_index_after}
use Rattle.view_drawing.proofs.Places.{more}
use Rattle.view_drawing.proofs.shapes.place_indexed.Goals as goal

pub loop-number-preserved : goal.loop-number-preserved
loop-number-preserved c =
    let v = vertex_range_seen c.args.vertices.now in
    let olds = map (option_map screen_seen) c.loop-number.placed.items in
    more (option_map screen_seen) (placed_by c.args.placement.now) (λ (k : ℕ). indexed_vertex v (index_at c.args.indices.now.bytes.now k)) c.args.indices.now.first c.loop-number.number
    c.loop-number.placed.items c.push_indexed.new.placed.items
    (c.in_ok-push_indexed-in-Some.ensures ∙ ap (λ i. olds ++ placed_by c.args.placement.now (indexed_vertex v i) ∷ []) (sym c.in-Some.is ∙ c.index_in.ensures)) c.loop-number.invariant

pub returns-in-None : goal.returns-in-None
returns-in-None c =
    placed_front (option_map screen_seen) (placed_by c.args.placement.now) (λ (k : ℕ). indexed_vertex (vertex_range_seen c.args.vertices.now) (index_at c.args.indices.now.bytes.now k)) c.args.indices.now.first c.loop-number.number c.args.indices.now.count
    c.loop-number.placed.items refl c.loop-number.auto.number-end
    (no_index_after (vertex_range_seen c.args.vertices.now) c.args.indices.now.bytes.now (c.args.indices.now.first + c.loop-number.number) (sym c.index_in.ensures ∙ c.in-None.is))
    c.loop-number.invariant
