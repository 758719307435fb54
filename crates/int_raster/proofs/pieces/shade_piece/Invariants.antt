use Rattle.std.proofs.Common.{◌≡◌}
use Rattle.tri_cover.specs.Slope.{ramp_at}
use Rattle.int_raster.specs.Painted.{HoldsPiece, shade_at}
use Rattle.int_raster.proofs.pieces.shade_piece.Given as goal

-- the columns before are there, and the channels stand at the column
abbrev pub invariant-loop-x : goal.invariant-loop-x
invariant-loop-x l = record {
  red : l.red ≡ ramp_at l.fn.shade.red l.x l.fn.piece.y;
  green : l.green ≡ ramp_at l.fn.shade.green l.x l.fn.piece.y;
  blue : l.blue ≡ ramp_at l.fn.shade.blue l.x l.fn.piece.y;
  alpha : l.alpha ≡ ramp_at l.fn.shade.alpha l.x l.fn.piece.y;
  held : HoldsPiece l.colors (λ x. shade_at l.fn.shade x l.fn.piece.y) l.fn.piece.first l.x;
}
