use Rattle.std.proofs.Common.{◌≡◌, ◌≤◌, ◌-◌, length, take}
use Rattle.int_raster.specs.Joined.{in_turn}
use Rattle.int_raster.specs.Places.{deep_pixels}
use Rattle.int_raster.proofs.deep.draw_deep.Given as goal

-- the triangles before the place are drawn
abbrev pub invariant-loop-at : goal.invariant-loop-at
invariant-loop-at l = record {
  within : l.at ≤ length l.fn.triangles;
  done : deep_pixels l.colors l.depths ≡ in_turn l.fn.rows l.fn.draw (deep_pixels l.fn.colors l.fn.depths) (take l.at l.fn.triangles);
}

abbrev pub decreases-loop-at : goal.decreases-loop-at
decreases-loop-at l = length l.fn.triangles - l.at
