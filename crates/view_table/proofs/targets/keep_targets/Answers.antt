use Rattle.std.proofs.Common.{arith}
use Rattle.view_table.proofs.TargetLaws.{keep_more, keep_done}
use Rattle.view_table.proofs.targets.keep_targets.Goals as goal

pub loop-at-preserved : goal.loop-at-preserved
loop-at-preserved g c =
    keep_more (g.T.LiveTargets.is_kept c.args.test.now) c.args.settings.now c.loop-at.settings c.loop-at.at c.keep_target.new.view c.index-settings-at.result c.loop-at.invariant
    c.keep_target.ensures c.loop-at.auto.settings c.loop-at-test.true

pub returns : goal.returns
returns g c =
    keep_done (g.T.LiveTargets.is_kept c.args.test.now) c.args.settings.now c.loop-at.settings c.loop-at.at c.loop-at.invariant (omega (arith, c.loop-at-test.false, c.loop-at.auto.at-end))
