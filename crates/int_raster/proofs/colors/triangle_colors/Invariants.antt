use Rattle.std.proofs.Common.{◌-◌, ◌≤◌, ◌≡◌}
use Rattle.gfx_model.specs.Number.{map_from}
use Rattle.int_raster.specs.Places.{below, above}
use Rattle.int_raster.specs.Seen.{color_change}
use Rattle.int_raster.proofs.colors.triangle_colors.Given as goal

-- the rows above are changed
abbrev pub invariant-loop-row : goal.invariant-loop-row
invariant-loop-row l = record {
  first : l.top ≤ l.row;
  within : l.row ≤ l.bottom;
  done : l.colors ≡ map_from (above l.fn.rows.width l.row (below l.fn.rows.top (color_change l.fn.draw l.fn.setup))) 0 (l.fn.colors);
}

abbrev pub decreases-loop-row : goal.decreases-loop-row
decreases-loop-row l = l.bottom - l.row
