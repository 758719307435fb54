use Rattle.std.proofs.Common.{◌∙◌}
use Rattle.view_table.proofs.Lists.{positions_more}
use Rattle.view_table.proofs.order.put_positions.Goals as goal

pub loop-at-preserved : goal.loop-at-preserved
loop-at-preserved c =
    positions_more c.loop-at.positions c.args.sequence.now c.loop-at.at c.requires.distinct (c.loop-at.auto.positions ∙ c.requires.lengths) c.requires.below c.loop-at-test.true c.loop-at.invariant
