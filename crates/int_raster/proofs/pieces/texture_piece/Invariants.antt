use Rattle.std.proofs.Common.{◌≡◌}
use Rattle.std.specs.Prelude.{pos}
use Rattle.gfx_model.specs.Raster.{sample}
use Rattle.fix_math.specs.Seen.{texels_seen}
use Rattle.tri_cover.specs.Widened.{wide_at}
use Rattle.int_raster.specs.Painted.{HoldsPiece, place_at}
use Rattle.int_raster.proofs.pieces.texture_piece.Given as goal

-- the columns before are there, and the positions stand at the column
abbrev pub invariant-loop-x : goal.invariant-loop-x
invariant-loop-x l = record {
  u : l.u ≡ wide_at l.fn.at.u l.x l.fn.piece.y;
  v : l.v ≡ wide_at l.fn.at.v l.x l.fn.piece.y;
  held : HoldsPiece l.colors (λ x. sample (texels_seen l.fn.texels) (pos (place_at l.fn.at.u x l.fn.piece.y)) (pos (place_at l.fn.at.v x l.fn.piece.y))) l.fn.piece.first l.x;
}
