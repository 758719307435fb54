-- The sum so far and that of the rest are the sum of all, modulo 2^32.
use Rattle.std.proofs.Common.{◌≡◌, ◌+◌, ◌%◌, ◌^◌, length, sum}
use Rattle.io_edge.proofs.sums.sum_of.Given as goal

abbrev pub invariant-loop-rest : goal.invariant-loop-rest
invariant-loop-rest l = (l.total + sum l.rest) % 2 ^ 32 ≡ sum l.bytes % 2 ^ 32

abbrev pub decreases-loop-rest : goal.decreases-loop-rest
decreases-loop-rest l = length l.rest
