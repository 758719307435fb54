use Rattle.std.proofs.Common.{slice_index_or, arith}
use Rattle.int_raster.proofs.Rowed.{drawn_here}
use Rattle.int_raster.proofs.columns.drawn_columns.Goals as goal

pub returns-clause-columns : goal.returns-clause-columns
returns-clause-columns c x b = drawn_here c.args.setup.now (slice_index_or c.args.spans.now c.args.place (0, 0)) c.args.limits c.args.cut.now c.args.y c.args.width x c.requires.held c.requires.limits c.requires.upper c.requires.lower b

pub returns-clause-order : goal.returns-clause-order
returns-clause-order c = c.requires.held.order

pub returns-clause-within : goal.returns-clause-within
returns-clause-within c = omega (arith, c.requires.held.within, c.requires.limits.within)
