use Rattle.std.proofs.Common.{◌≡◌, ◌+◌, map, ap, subst, ◌∙◌}
use Rattle.std.specs.Prelude.{option_map}
use Rattle.gfx_model.specs.Words.{cull_of, primitive_of}
use Rattle.gfx_model.specs.Vertex.{triangles_of}
use Rattle.fix_math.specs.Seen.{affine_seen}
use Rattle.tri_cover.specs.Seen.{screen_seen}
use Rattle.tri_cover.specs.Shown.{setup_seen}
use Rattle.gfx_query.specs.Counting.{counted_by}
use Rattle.gfx_query.specs.Draws.{vertices_in, instance_vertex}
use Rattle.gfx_query.specs.Standing.{Stand, shown_of}
use Rattle.gfx_query.proofs.Triangles.{facings_ready}
use Rattle.gfx_query.proofs.counting.count_instance.Goals as goal

pub returns-clause-counted : goal.returns-clause-counted
returns-clause-counted c =
    let w = c.args.sides.now.width in
    let state = c.args.draw.now.state in
    let front = c.args.draw.now.front in
    let back = c.args.draw.now.back in
    let placed = map (instance_vertex w c.args.sides.now.height (affine_seen c.args.model.now)) (vertices_in c.args.vertices.now) in
    let shown : map setup_seen c.deref-2.result.now ≡ shown_of (cull_of state) (triangles_of (primitive_of state) placed) =
    ap (map setup_seen) c.deref-2.ensures.value ∙ c.triangles_of.ensures.shown
    ∙ (λ i. shown_of (c.cull.ensures.value i) (triangles_of (c.primitive.ensures.value i) ((ap (map (option_map screen_seen)) c.deref.ensures.value ∙ c.place_vertices.ensures.placed) i))) in
    λ n ps s. subst (λ fs. Stand c.count_triangles.new.words (n + c.count_triangles.result) (counted_by w state fs ps)) (facings_ready state front back c.deref-2.result.now (triangles_of (primitive_of state) placed) shown) (c.count_triangles.ensures.counted n ps s)
