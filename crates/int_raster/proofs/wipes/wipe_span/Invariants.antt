use Rattle.std.proofs.Common.{◌≡◌, ◌+◌, map}
use Rattle.gfx_model.specs.Number.{map_from}
use Rattle.gfx_model.specs.World.{cleared_word}
use Rattle.int_raster.specs.Places.{spanned, in_row}
use Rattle.int_raster.specs.Wiping.{wipe_seen, word_in}
use Rattle.int_raster.proofs.wipes.wipe_span.Given as goal

-- the words before the column are cleared
abbrev pub invariant-loop-x : goal.invariant-loop-x
invariant-loop-x l =
    map word_in l.depths ≡ map_from (spanned (in_row l.fn.span.start l.fn.span.y (λ x y word. cleared_word (wipe_seen l.fn.wipe).clear word)) (l.fn.span.start + l.fn.span.first) (l.fn.span.start + l.x)) 0 (map word_in l.fn.depths)
