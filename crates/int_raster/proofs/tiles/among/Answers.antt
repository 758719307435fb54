use Rattle.std.proofs.Common.{rules, arith}
use Rattle.int_raster.proofs.Tiled.{some_among, none_among}
use Rattle.int_raster.proofs.tiles.among.Goals as goal

pub returns-then-first-after-clause-test : goal.returns-then-first-after-clause-test
returns-then-first-after-clause-test c stored small = some_among c.args.first c.args.after stored (search rules)

pub returns-else-first-after-clause-test : goal.returns-else-first-after-clause-test
returns-else-first-after-clause-test c stored small = none_among c.args.first c.args.after stored small (omega arith)
