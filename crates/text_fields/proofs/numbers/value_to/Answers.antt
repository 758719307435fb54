use Rattle.std.proofs.Common.{arith}
use Rattle.text_fields.proofs.Splits.{above}
use Rattle.text_fields.proofs.numbers.value_to.Goals as goal

pub returns-then-value-from : goal.returns-then-value-from
returns-then-value-from c = above c.args.high c.loop-digit.value c.args.digits.now c.loop-digit.digit-index _ (omega arith) (omega arith) c.loop-digit.invariant.left
