use Rattle.std.proofs.Common.{map, ◌∙◌}
use Rattle.std.specs.Prelude.{option_map}
use Rattle.gfx_model.specs.Words.{cull_of, primitive_of}
use Rattle.gfx_model.specs.Vertex.{triangles_of}
use Rattle.gfx_model.specs.World.{draw_vertices}
use Rattle.tri_cover.specs.Seen.{screen_seen}
use Rattle.store_laws.specs.ByIndex.{vertices_at, indices_at}
use Rattle.draw_encoder.specs.Seen.{vertices_seen, indices_seen}
use Rattle.view_drawing.specs.Shapes.{placed_by, kept_of}
use Rattle.view_drawing.proofs.Fronts.{kept_front}
use Rattle.view_drawing.proofs.preparing.shape_draw.Goals as goal

pub returns : goal.returns
returns c =
    c.in_ok-triangles_of.ensures
    ∙ (λ i. kept_of (c.cull.ensures.value i) (triangles_of (c.primitive.ensures.value i) (map (option_map screen_seen) (c.deref.ensures.value i))))
    ∙ kept_front (cull_of c.args.draw.now.state) (primitive_of c.args.draw.now.state) (map (option_map screen_seen) c.place_draw.new.room.items) (map (placed_by c.args.placement.now) (draw_vertices (vertices_at c.args.buffers.now (vertices_seen c.args.recorded.now c.args.draw.now.vertices)) (indices_at c.args.buffers.now (indices_seen c.args.recorded.now c.args.draw.now.indices)))) c.in_ok-place_draw.ensures
