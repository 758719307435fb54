use Rattle.std.proofs.Common.{◌≡◌}
use Rattle.gfx_model.specs.Number.{map_from}
use Rattle.gfx_model.specs.Raster.{contains}
use Rattle.fix_math.specs.Seen.{rect_seen}
use Rattle.int_raster.specs.Places.{above, below, where_test}
use Rattle.int_raster.specs.Wiping.{one_texel}
use Rattle.int_raster.proofs.wipes.fill.Given as goal

-- the rows before are stored
abbrev pub invariant-loop-row : goal.invariant-loop-row
invariant-loop-row l = l.texels ≡ map_from (above l.fn.rows.width l.row (below l.fn.rows.top (where_test (contains (rect_seen l.fn.cut)) (one_texel l.fn.texel)))) 0 l.fn.texels
