use Rattle.std.proofs.Common.{rules}
use Rattle.int_raster.specs.Wiping.{wipe_seen}
use Rattle.int_raster.proofs.Wiped.{colors_stay}
use Rattle.int_raster.proofs.wipes.wipe_colors.Goals as goal

pub returns-else-has : goal.returns-else-has
returns-else-has c = colors_stay (wipe_seen c.args.wipe.now) c.args.rows.now.width c.args.rows.now.top c.args.colors.now (search rules)
