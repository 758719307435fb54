use Rattle.std.proofs.Common.{◌≡◌, ◌≤◌, ◌<◌, ℕ, ◌+◌, ◌*◌, ◌/◌, ◌%◌, ◌^◌, slice_index, max}
use Rattle.int_raster.proofs.Carried.{short_at}
use Rattle.int_raster.proofs.pieces.depths_by_four.Given as goal

-- the values stand at the column, and the depths before it are there, by fractions that are at most the largest
abbrev pub invariant-loop-i : goal.invariant-loop-i
invariant-loop-i l = record {
  front : (j : ℕ) → j < 2 → slice_index l.front j ≡ short_at l.fn.first l.fn.by (4 * l.i + j);
  back : (j : ℕ) → j < 2 → slice_index l.back j ≡ short_at l.fn.first l.fn.by (4 * l.i + 2 + j);
  put : (k : ℕ) → k < 4 * l.i → slice_index l.depths k ≡ short_at l.fn.first l.fn.by k / 2 ^ 40;
  most : (k : ℕ) → k < 4 * l.i → short_at l.fn.first l.fn.by k % 2 ^ 32 ≤ max (slice_index l.most 0) (slice_index l.most 2);
}
