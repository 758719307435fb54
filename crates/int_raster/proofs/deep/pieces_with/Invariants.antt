use Rattle.std.proofs.Common.{◌≡◌, ◌+◌, ◌-◌, ◌≤◌}
use Rattle.gfx_model.specs.Number.{map_from}
use Rattle.int_raster.specs.Places.{deep_pixels, spanned, in_row}
use Rattle.int_raster.specs.Seen.{step_seen}
use Rattle.int_raster.proofs.deep.pieces_with.Given as goal

-- the pieces before the column are drawn
abbrev pub invariant-loop-first : goal.invariant-loop-first
invariant-loop-first l = record {
  order : l.fn.span.first ≤ l.first;
  within : l.first ≤ l.fn.span.after;
  done : deep_pixels l.colors l.depths ≡ map_from (spanned (in_row l.fn.span.start l.fn.span.y (step_seen l.fn.draw l.fn.setup)) (l.fn.span.start + l.fn.span.first) (l.fn.span.start + l.first)) 0 (deep_pixels l.fn.colors l.fn.depths);
}

abbrev pub decreases-loop-first : goal.decreases-loop-first
decreases-loop-first l = l.fn.span.after - l.first
