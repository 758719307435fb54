use Rattle.std.proofs.Common.{◌≡◌, map}
use Rattle.gfx_model.specs.Number.{map_from}
use Rattle.int_raster.specs.Places.{above, below}
use Rattle.int_raster.specs.Wiping.{wipe_seen, wiped_word, word_in}
use Rattle.int_raster.proofs.wipes.wipe_rows.Given as goal

-- the rows before are cleared
abbrev pub invariant-loop-row : goal.invariant-loop-row
invariant-loop-row l = map word_in l.depths ≡ map_from (above l.fn.rows.width l.row (below l.fn.rows.top (wiped_word (wipe_seen l.fn.wipe)))) 0 (map word_in l.fn.depths)
