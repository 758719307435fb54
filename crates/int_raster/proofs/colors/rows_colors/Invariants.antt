use Rattle.std.proofs.Common.{◌+◌, ◌≡◌, List}
use Rattle.gfx_model.specs.Vertex.{Color}
use Rattle.gfx_model.specs.Number.{map_from}
use Rattle.int_raster.specs.Places.{below, above}
use Rattle.int_raster.specs.Seen.{color_change}
use Rattle.int_raster.proofs.colors.rows_colors.Given as goal

-- the rows before are changed as well
abbrev pub invariant-loop-k : goal.invariant-loop-k
invariant-loop-k l = (start : List Color) → l.fn.colors ≡ map_from (above l.fn.rows.width l.fn.from (below l.fn.rows.top (color_change l.fn.draw l.fn.setup))) 0 start → l.colors ≡ map_from (above l.fn.rows.width (l.fn.from + l.k) (below l.fn.rows.top (color_change l.fn.draw l.fn.setup))) 0 start
