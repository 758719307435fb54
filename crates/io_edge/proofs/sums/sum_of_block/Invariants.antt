-- The sum of the bytes so far, which are at most 255 each.
use Rattle.std.proofs.Common.{◌≡◌, ◌≤◌, ◌*◌, sum, take}
use Rattle.io_edge.proofs.sums.sum_of_block.Given as goal

abbrev pub invariant-loop-byte : goal.invariant-loop-byte
invariant-loop-byte l = (l.total ≡ sum (take l.byte-index l.block)) × (l.total ≤ 255 * l.byte-index)
