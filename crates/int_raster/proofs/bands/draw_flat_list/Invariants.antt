use Rattle.std.proofs.Common.{◌≡◌, take}
use Rattle.int_raster.specs.Bands.{flat_drawn}
use Rattle.int_raster.proofs.bands.draw_flat_list.Given as goal

-- the draws before the index are made
abbrev pub invariant-loop-index : goal.invariant-loop-index
invariant-loop-index l =
    l.colors ≡ flat_drawn l.fn.rows.width l.fn.rows.top l.fn.colors (take l.index l.fn.list)
