use Rattle.std.proofs.Common.{◌≡◌, ◌≤◌, ◌+◌, ◌-◌, length}
use Rattle.gfx_model.specs.Number.{map_from}
use Rattle.int_raster.specs.Places.{deep_pixels, spanned, in_row}
use Rattle.int_raster.specs.Seen.{step_seen}
use Rattle.int_raster.specs.Deepened.{IsDeep}
use Rattle.int_raster.specs.Tinted.{IsTint}
use Rattle.int_raster.proofs.gradients.shade_by_four.Given as goal

-- the pixels of the span before the column are stepped, and the values stand at it
abbrev pub invariant-loop-x : goal.invariant-loop-x
invariant-loop-x l = record {
  low : l.fn.span.first ≤ l.x;
  many : length l.colors ≡ length l.fn.colors;
  deep : length l.depths ≡ length l.fn.depths;
  tint : IsTint l.tint l.fn.shade l.x l.fn.span.y;
  at : IsDeep l.at l.fn.depth l.x l.fn.span.y;
  done : deep_pixels l.colors l.depths ≡ map_from (spanned (spanned (in_row l.fn.span.start l.fn.span.y (step_seen l.fn.draw l.fn.setup)) 0 (l.fn.span.start + l.fn.span.after)) (l.fn.span.start + l.fn.span.first) (l.fn.span.start + l.x)) 0 (deep_pixels l.fn.colors l.fn.depths);
}

abbrev pub decreases-loop-x : goal.decreases-loop-x
decreases-loop-x l = l.fn.span.after - l.x
