use Rattle.std.proofs.Common.{◌-◌, ◌≤◌, ◌≡◌}
use Rattle.gfx_model.specs.Number.{map_from}
use Rattle.int_raster.specs.Places.{below, above, deep_pixels}
use Rattle.int_raster.specs.Seen.{change_seen}
use Rattle.int_raster.proofs.deep.triangle_tall.Given as goal

-- the rows above are changed
abbrev pub invariant-loop-row : goal.invariant-loop-row
invariant-loop-row l = record {
  first : l.top ≤ l.row;
  within : l.row ≤ l.bottom;
  done : deep_pixels l.colors l.depths ≡ map_from (above l.fn.rows.width l.row (below l.fn.rows.top (change_seen l.fn.draw l.fn.setup))) 0 (deep_pixels l.fn.colors l.fn.depths);
}

abbrev pub decreases-loop-row : goal.decreases-loop-row
decreases-loop-row l = l.bottom - l.row
