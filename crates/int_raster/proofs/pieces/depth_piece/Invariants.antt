use Rattle.std.proofs.Common.{◌≡◌, ◌+◌, ◌*◌, ◌^◌, ◌<◌}
use Rattle.tri_cover.specs.Widened.{wide_at, wide_whole}
use Rattle.int_raster.specs.Painted.{HoldsDepths, AreDepths}
use Rattle.int_raster.proofs.pieces.depth_piece.Given as goal

-- the columns before are there, and the halves of the depth stand at the column
abbrev pub invariant-loop-x : goal.invariant-loop-x
invariant-loop-x l = record {
  depth : l.high * 2 ^ 64 + l.low ≡ wide_at l.fn.ramp l.x l.fn.piece.y;
  small : l.low < 2 ^ 64;
  held : HoldsDepths l.depths (λ x. wide_whole l.fn.ramp x l.fn.piece.y) l.fn.piece.first l.x;
  few : AreDepths l.depths l.fn.piece.first l.x;
}
