use Rattle.std.proofs.Common.{◌+◌, ap, ◌∙◌}
use Rattle.int_raster.specs.Places.{deep_pixels}
use Rattle.int_raster.proofs.Colored.{free_where, span_colored}
use Rattle.int_raster.proofs.tiles.draw_tile.Goals as goal

pub returns-then-tile : goal.returns-then-tile
returns-then-tile c =
    let s = c.args.span.now in
    let d = c.args.draw.now in
    let plain = c.requires.level.plain in
    ap (λ cs. deep_pixels cs c.args.depths.now) c.store_free.ensures
    ∙ span_colored d c.args.setup.now s.start s.y (s.start + s.first) (s.start + s.after) 0 c.args.colors.now c.args.depths.now
    (free_where c.args.level.now.rule d c.args.setup.now plain.rule (c.requires.tile.free c.if-tile.true) plain.plain) c.requires.same
