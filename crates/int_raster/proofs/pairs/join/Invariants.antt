use Rattle.std.proofs.Common.{ℕ, ◌≡◌, ◌≤◌, slice_index_or}
use Rattle.int_raster.specs.Joined.{JoinAll}
use Rattle.int_raster.proofs.pairs.join.Given as goal

-- the rows before are joined, and the others are as they were
abbrev pub invariant-loop-k : goal.invariant-loop-k
invariant-loop-k l = record {
  joined : JoinAll l.spans l.fn.spans l.fn.others l.k;
  left : (i : ℕ) → l.k ≤ i → slice_index_or l.spans i (0, 0) ≡ slice_index_or l.fn.spans i (0, 0);
}
