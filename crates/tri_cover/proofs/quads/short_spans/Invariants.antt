use Rattle.std.proofs.Common.{ℕ, ◌≡◌, ◌≤◌, ◌<◌, ◌-◌, ◌%◌, slice_index_or}
use Rattle.tri_cover.specs.Shortened.{AreFours, short_span}
use Rattle.tri_cover.proofs.quads.short_spans.Given as goal

-- the rows before are there, and the bounds stand at the row, whose number four divides
abbrev pub invariant-loop-k : goal.invariant-loop-k
invariant-loop-k l = record {
  fours : AreFours l.here l.fn.shorts l.k;
  whole : l.k % 4 ≡ 0;
  few : l.k ≤ 32;
  held : (i : ℕ) → i < l.k → slice_index_or l.spans i (0, 0) ≡ short_span l.fn.shorts l.fn.first l.fn.after i;
}

abbrev pub decreases-loop-k : goal.decreases-loop-k
decreases-loop-k l = 36 - l.k
