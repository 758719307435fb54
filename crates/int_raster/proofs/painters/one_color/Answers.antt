use Rattle.std.proofs.Common.{ap, sym, ◌∙◌, ◌∷◌, []}
use Rattle.std.specs.Prelude.{slice_index}
use Rattle.gfx_model.specs.Raster.{fragment_at}
use Rattle.gfx_model.specs.World as world
use Rattle.tri_cover.specs.Shown.{setup_seen}
use Rattle.int_raster.specs.Seen.{paint_seen}
use Rattle.int_raster.proofs.Level.{number_one}
use Rattle.int_raster.proofs.painters.one_color.Goals as goal

pub returns-then-has_one_color : goal.returns-then-has_one_color
returns-then-has_one_color c x y =
    let s = c.args.setup.now in
    let t = (setup_seen s).triangle in
    let one = c.has_one_color.ensures in
    let red = one.red c.if-has_one_color.true in
    let green = one.green c.if-has_one_color.true in
    let blue = one.blue c.if-has_one_color.true in
    let alpha = one.alpha c.if-has_one_color.true in
    c.whole.ensures
    ∙ (λ i. number_one t x y (slice_index s.a.color 0) (slice_index s.b.color 0) (slice_index s.c.color 0) s.turned red.0 red.1 i
    ∷ number_one t x y (slice_index s.a.color 1) (slice_index s.b.color 1) (slice_index s.c.color 1) s.turned green.0 green.1 i
    ∷ number_one t x y (slice_index s.a.color 2) (slice_index s.b.color 2) (slice_index s.c.color 2) s.turned blue.0 blue.1 i
    ∷ number_one t x y (slice_index s.a.color 3) (slice_index s.b.color 3) (slice_index s.c.color 3) s.turned alpha.0 alpha.1 i
    ∷ [])
    ∙ ap (λ q. world.painted (paint_seen q) (fragment_at t x y)) (sym c.in-Vertex.is)
