use Rattle.std.proofs.Common.{arith}
use Rattle.picture_diff.proofs.Digits.{above}
use Rattle.picture_diff.proofs.numbers.value_to.Goals as goal

pub returns-then-value-from : goal.returns-then-value-from
returns-then-value-from c = above c.args.most c.loop-digit.value c.args.digits.now c.loop-digit.digit-index _ (omega arith) (omega arith) c.loop-digit.invariant.left
