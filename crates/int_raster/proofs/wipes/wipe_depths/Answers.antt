use Rattle.std.proofs.Common.{rules, map}
use Rattle.int_raster.specs.Wiping.{wipe_seen, word_in}
use Rattle.int_raster.proofs.Wiped.{words_stay}
use Rattle.int_raster.proofs.wipes.wipe_depths.Goals as goal

pub returns-else-has-2 : goal.returns-else-has-2
returns-else-has-2 c = words_stay (wipe_seen c.args.wipe.now) c.args.rows.now.width c.args.rows.now.top (map word_in c.args.depths.now) (search rules) (search rules)
