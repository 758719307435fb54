use Rattle.std.proofs.Common.{ap, ◌∙◌}
use Rattle.int_raster.specs.Places.{deep_pixels}
use Rattle.int_raster.proofs.Colored.{deep_colored}
use Rattle.int_raster.proofs.deep.triangle_free.Goals as goal

pub returns : goal.returns
returns c =
    ap (λ cs. deep_pixels cs c.args.depths.now) c.triangle_colors.ensures
    ∙ deep_colored c.args.draw.now c.args.setup.now c.args.rows.now.width c.args.rows.now.top 0 c.args.colors.now c.args.depths.now c.requires.free c.requires.same
