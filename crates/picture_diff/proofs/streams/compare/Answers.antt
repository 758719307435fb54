use Rattle.std.proofs.Common.{arith}
use Rattle.picture_diff.proofs.Frames.{all-at}
use Rattle.picture_diff.proofs.streams.compare.Goals as goal

pub difference-requires-clause-one : goal.difference-requires-clause-one
difference-requires-clause-one c = all-at c.args.ones.now c.loop-frame.frame _ c.requires.ones c.loop-frame-test.true

pub difference-requires-clause-other : goal.difference-requires-clause-other
difference-requires-clause-other c = all-at c.args.others.now c.loop-frame.frame _ c.requires.others (omega (arith, c.loop-frame-test.true, c.requires.long))
