use Rattle.std.proofs.Common.{◌≡◌, take}
use Rattle.int_raster.specs.Bands.{deep, deep_drawn}
use Rattle.int_raster.proofs.bands.draw_deep_list.Given as goal

-- the draws before the index are made
abbrev pub invariant-loop-index : goal.invariant-loop-index
invariant-loop-index l =
    deep l.colors l.depths ≡ deep_drawn l.fn.rows.width l.fn.rows.top (deep l.fn.colors l.fn.depths) (take l.index l.fn.list)
