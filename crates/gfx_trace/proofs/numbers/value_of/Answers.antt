use Rattle.std.proofs.Common.{arith}
use Rattle.gfx_trace.proofs.Values.{above}
use Rattle.gfx_trace.proofs.numbers.value_of.Goals as goal

pub returns-then-value-gt4294967295 : goal.returns-then-value-gt4294967295
returns-then-value-gt4294967295 c = above 4294967295 c.loop-digit.value c.args.digits.now c.loop-digit.digit-index _ (omega arith) (omega arith) c.loop-digit.invariant.left
