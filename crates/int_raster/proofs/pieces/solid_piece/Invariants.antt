use Rattle.int_raster.specs.Painted.{HoldsPiece}
use Rattle.int_raster.proofs.pieces.solid_piece.Given as goal

-- the columns before are there
abbrev pub invariant-loop-x : goal.invariant-loop-x
invariant-loop-x l = HoldsPiece l.colors (λ x. l.fn.color) l.fn.piece.first l.x
