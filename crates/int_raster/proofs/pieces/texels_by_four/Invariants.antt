use Rattle.std.proofs.Common.{◌≡◌, ◌≤◌, ◌<◌, ℕ, ◌*◌, ◌/◌, ◌%◌, ◌^◌, [], slice_index, slice_index_or}
use Rattle.std.specs.Prelude.{pos}
use Rattle.gfx_model.specs.Raster.{sample}
use Rattle.int_raster.specs.Sampled.{sampler_seen}
use Rattle.int_raster.proofs.Carried.{position_at, top_of}
use Rattle.int_raster.proofs.pieces.texels_by_four.Given as goal

-- the positions stand at the column, and the texels before it are there, by fractions that are at most the largest
abbrev pub invariant-loop-i : goal.invariant-loop-i
invariant-loop-i l = record {
  u : slice_index l.a 0 ≡ position_at l.fn.at.u l.fn.piece.first l.fn.piece.y (4 * l.i);
  v : slice_index l.a 1 ≡ position_at l.fn.at.v l.fn.piece.first l.fn.piece.y (4 * l.i);
  put : (k : ℕ) → k < 4 * l.i → slice_index_or l.colors k [] ≡ sample (sampler_seen l.fn.sampler) (pos (position_at l.fn.at.u l.fn.piece.first l.fn.piece.y k / 2 ^ 48)) (pos (position_at l.fn.at.v l.fn.piece.first l.fn.piece.y k / 2 ^ 48));
  most_u : (k : ℕ) → k < 4 * l.i → position_at l.fn.at.u l.fn.piece.first l.fn.piece.y k / 2 ^ 32 % 2 ^ 16 ≤ top_of l.most;
  most_v : (k : ℕ) → k < 4 * l.i → position_at l.fn.at.v l.fn.piece.first l.fn.piece.y k / 2 ^ 32 % 2 ^ 16 ≤ top_of l.most;
}
