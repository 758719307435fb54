use Rattle.std.proofs.Common.{◌<◌, length, map, ap, arith}
use Rattle.std.specs.Prelude.{option_map}
use Rattle.std.proofs.lemmas.List.{length-map}
use Rattle.gfx_model.specs.Vertex.{listed_triangles}
use Rattle.tri_cover.specs.Seen.{screen_seen}
use Rattle.tri_cover.specs.Shown.{setup_seen}
use Rattle.view_drawing.specs.Shapes.{kept_of}
use Rattle.view_drawing.proofs.Facings.{few_listed, all_done}
use Rattle.view_drawing.proofs.shapes.list_triangles.Goals as goal

pub returns : goal.returns
returns c =
    let few : length (map (option_map screen_seen) c.loop-rest.rest.now) < 3 = omega (arith, c.in_default.len_below, length-map c.loop-rest.rest.now (option_map screen_seen)) in
    all_done (map setup_seen c.loop-rest.triangles.items) (kept_of c.args.cull (listed_triangles (map (option_map screen_seen) c.loop-rest.rest.now))) (kept_of c.args.cull (listed_triangles (map (option_map screen_seen) c.args.vertices.now)))
    (ap (kept_of c.args.cull) (few_listed (map (option_map screen_seen) c.loop-rest.rest.now) few)) c.loop-rest.invariant
