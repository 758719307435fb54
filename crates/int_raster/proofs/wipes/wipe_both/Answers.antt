use Rattle.std.proofs.Common.{ap, ◌∙◌}
use Rattle.int_raster.specs.Places.{deep_pixels}
use Rattle.int_raster.specs.Wiping.{wipe_seen}
use Rattle.int_raster.proofs.Wiped.{deep_wiped_pixels}
use Rattle.int_raster.proofs.wipes.wipe_both.Goals as goal

pub returns : goal.returns
returns c =
    ap (λ cs. deep_pixels cs c.wipe_depths.new.depths) c.wipe_colors.ensures
    ∙ deep_wiped_pixels (wipe_seen c.args.wipe.now) c.args.rows.now.width c.args.rows.now.top 0 c.args.colors.now c.args.depths.now c.wipe_depths.new.depths c.wipe_depths.ensures
