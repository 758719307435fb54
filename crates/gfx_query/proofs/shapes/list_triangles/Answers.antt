use Rattle.std.proofs.Common.{◌<◌, length, map, ap, arith}
use Rattle.std.specs.Prelude.{option_map}
use Rattle.std.proofs.lemmas.List.{length-map}
use Rattle.gfx_model.specs.Vertex.{listed_triangles}
use Rattle.tri_cover.specs.Seen.{screen_seen}
use Rattle.tri_cover.specs.Shown.{setup_seen}
use Rattle.gfx_query.specs.Standing.{shown_of}
use Rattle.gfx_query.proofs.Triangles.{few_listed, all_done}
use Rattle.gfx_query.proofs.shapes.list_triangles.Goals as goal

pub returns-clause-shown : goal.returns-clause-shown
returns-clause-shown c =
    let few : length (map (option_map screen_seen) c.loop-rest.rest.now) < 3 = omega (arith, c.in_default.len_below, length-map c.loop-rest.rest.now (option_map screen_seen)) in
    all_done (map setup_seen c.loop-rest.triangles.items) (shown_of c.args.cull (listed_triangles (map (option_map screen_seen) c.loop-rest.rest.now))) (shown_of c.args.cull (listed_triangles (map (option_map screen_seen) c.args.vertices.now)))
    (ap (shown_of c.args.cull) (few_listed (map (option_map screen_seen) c.loop-rest.rest.now) few)) c.loop-rest.invariant.shown
