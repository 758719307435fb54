use Rattle.std.proofs.Common.{◌≡◌, ◌≤◌, ◌+◌, ◌-◌, length}
use Rattle.gfx_model.specs.Number.{map_from}
use Rattle.int_raster.specs.Places.{spanned, in_row}
use Rattle.int_raster.specs.Placed.{AreBits}
use Rattle.int_raster.specs.Seen.{color_seen}
use Rattle.int_raster.proofs.textured.texture_by_four.Given as goal

-- the colours of the span before the column are stepped, and the positions' bits stand at it
abbrev pub invariant-loop-x : goal.invariant-loop-x
invariant-loop-x l = record {
  low : l.fn.span.first ≤ l.x;
  many : length l.colors ≡ length l.fn.colors;
  bits : AreBits l.bits l.fn.at l.x l.fn.span.y;
  done : l.colors ≡ map_from (spanned (spanned (in_row l.fn.span.start l.fn.span.y (color_seen l.fn.draw l.fn.setup)) 0 (l.fn.span.start + l.fn.span.after)) (l.fn.span.start + l.fn.span.first) (l.fn.span.start + l.x)) 0 l.fn.colors;
}

abbrev pub decreases-loop-x : goal.decreases-loop-x
decreases-loop-x l = l.fn.span.after - l.x
