use Rattle.std.proofs.Common.{◌+◌, ◌*◌, ◌≡◌, ◌≤◌, ℕ, Bool, List}
use Rattle.gfx_model.specs.Pixel.{Pixel}
use Rattle.gfx_model.specs.Number.{map_from}
use Rattle.int_raster.specs.Joined.{HoldsTest}
use Rattle.int_raster.specs.Places.{below, above, deep_pixels, where_test}
use Rattle.int_raster.specs.Seen.{step_seen}
use Rattle.int_raster.proofs.deep.rows_tiled.Given as goal

-- the rows before are changed as well, and the next one begins at the place
abbrev pub invariant-loop-k : goal.invariant-loop-k
invariant-loop-k l = record {
  place : l.start ≡ (l.fn.from + l.k) * l.fn.rows.width;
  small : l.start ≤ 4294836225;
  done : (test : ℕ → ℕ → Bool) (start : List Pixel) → HoldsTest l.fn.spans test (l.fn.rows.top + l.fn.from) l.fn.rows.width l.fn.count → deep_pixels l.fn.colors l.fn.depths ≡ map_from (above l.fn.rows.width l.fn.from (below l.fn.rows.top (where_test test (step_seen l.fn.draw l.fn.setup)))) 0 start → deep_pixels l.colors l.depths ≡ map_from (above l.fn.rows.width (l.fn.from + l.k) (below l.fn.rows.top (where_test test (step_seen l.fn.draw l.fn.setup)))) 0 start;
}
