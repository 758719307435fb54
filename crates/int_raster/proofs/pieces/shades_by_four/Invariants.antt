use Rattle.std.proofs.Common.{◌≡◌, ◌<◌, ℕ, ◌+◌, ◌*◌, [], slice_index_or}
use Rattle.int_raster.specs.Painted.{shade_at}
use Rattle.int_raster.specs.Tinted.{IsTint}
use Rattle.int_raster.proofs.pieces.shades_by_four.Given as goal

-- the channels' values stand at the column, and the colours before it are there
abbrev pub invariant-loop-i : goal.invariant-loop-i
invariant-loop-i l = record {
  at : IsTint l.at l.fn.shade (l.fn.piece.first + 4 * l.i) l.fn.piece.y;
  put : (k : ℕ) → k < 4 * l.i → slice_index_or l.colors k [] ≡ shade_at l.fn.shade (l.fn.piece.first + k) l.fn.piece.y;
}
