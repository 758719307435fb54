use Rattle.std.proofs.Common.{◌≡◌, ◌+◌}
use Rattle.gfx_model.specs.Number.{map_from}
use Rattle.tri_cover.specs.Slope.{ramp_at}
use Rattle.int_raster.specs.Places.{deep_pixels, spanned, in_row}
use Rattle.int_raster.specs.Seen.{step_seen}
use Rattle.int_raster.proofs.deep_spans.fill_each.Given as goal

-- the pixels before the column are stepped, and the ramps stand at it
abbrev pub invariant-loop-x : goal.invariant-loop-x
invariant-loop-x l = record {
  new : l.new ≡ ramp_at l.fn.depth l.x l.fn.span.y;
  done : deep_pixels l.colors l.depths ≡ map_from (spanned (in_row l.fn.span.start l.fn.span.y (step_seen l.fn.draw l.fn.setup)) (l.fn.span.start + l.fn.span.first) (l.fn.span.start + l.x)) 0 (deep_pixels l.fn.colors l.fn.depths);
}
