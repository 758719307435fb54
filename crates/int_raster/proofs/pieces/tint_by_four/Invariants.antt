use Rattle.std.proofs.Common.{◌≡◌, ◌≤◌, ◌<◌, ℕ, ◌+◌, ◌*◌, [], slice_index_or}
use Rattle.gfx_model.specs.Number.{byte_product, zip_with}
use Rattle.int_raster.specs.Painted.{shade_at}
use Rattle.int_raster.specs.Tinted.{IsTint}
use Rattle.int_raster.proofs.pieces.tint_by_four.Given as goal

-- the channels' values stand at the column, the colours before it are products, and the others are as they were
abbrev pub invariant-loop-i : goal.invariant-loop-i
invariant-loop-i l = record {
  at : IsTint l.at l.fn.shade (l.fn.piece.first + 4 * l.i) l.fn.piece.y;
  products : (k : ℕ) → k < 4 * l.i → slice_index_or l.colors k [] ≡ zip_with byte_product (slice_index_or l.fn.colors k []) (shade_at l.fn.shade (l.fn.piece.first + k) l.fn.piece.y);
  others : (k : ℕ) → 4 * l.i ≤ k → slice_index_or l.colors k [] ≡ slice_index_or l.fn.colors k [];
}
