use Rattle.std.proofs.Common.{rules, arith}
use Rattle.int_raster.specs.Wiping.{wipe_seen}
use Rattle.int_raster.proofs.Wiped.{cleared_fits, set_both, set_depth, set_stencil, set_none}
use Rattle.int_raster.proofs.wipes.parts_of.Goals as goal

pub returns-then-has-2-clause-fits : goal.returns-then-has-2-clause-fits
returns-then-has-2-clause-fits c word h =
    let k = (wipe_seen c.args.wipe.now).clear in
    cleared_fits k word _ (set_both k word (search rules) (search rules)) h c.args.wipe.now.shallow (omega arith)

pub returns-then-has-2-clause-cleared : goal.returns-then-has-2-clause-cleared
returns-then-has-2-clause-cleared c word h = set_both (wipe_seen c.args.wipe.now).clear word (search rules) (search rules)

pub returns-else-has-2-clause-fits : goal.returns-else-has-2-clause-fits
returns-else-has-2-clause-fits c word h =
    let k = (wipe_seen c.args.wipe.now).clear in
    cleared_fits k word _ (set_depth k word h (search rules) (search rules)) h c.args.wipe.now.shallow (omega arith)

pub returns-else-has-2-clause-cleared : goal.returns-else-has-2-clause-cleared
returns-else-has-2-clause-cleared c word h = set_depth (wipe_seen c.args.wipe.now).clear word h (search rules) (search rules)

pub returns-then-has-3-clause-fits : goal.returns-then-has-3-clause-fits
returns-then-has-3-clause-fits c word h =
    let k = (wipe_seen c.args.wipe.now).clear in
    cleared_fits k word _ (set_stencil k word (search rules) (search rules)) h c.args.wipe.now.shallow (omega arith)

pub returns-then-has-3-clause-cleared : goal.returns-then-has-3-clause-cleared
returns-then-has-3-clause-cleared c word h = set_stencil (wipe_seen c.args.wipe.now).clear word (search rules) (search rules)

pub returns-else-has-3-clause-fits : goal.returns-else-has-3-clause-fits
returns-else-has-3-clause-fits c word h =
    let k = (wipe_seen c.args.wipe.now).clear in
    cleared_fits k word _ (set_none k word h (search rules) (search rules)) h c.args.wipe.now.shallow (omega arith)

pub returns-else-has-3-clause-cleared : goal.returns-else-has-3-clause-cleared
returns-else-has-3-clause-cleared c word h = set_none (wipe_seen c.args.wipe.now).clear word h (search rules) (search rules)
