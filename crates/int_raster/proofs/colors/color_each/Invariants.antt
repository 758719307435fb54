use Rattle.std.proofs.Common.{◌≡◌, ◌+◌}
use Rattle.gfx_model.specs.Number.{map_from}
use Rattle.int_raster.specs.Places.{spanned, in_row}
use Rattle.int_raster.specs.Seen.{color_seen}
use Rattle.int_raster.proofs.colors.color_each.Given as goal

-- the pixels before the column are stepped
abbrev pub invariant-loop-x : goal.invariant-loop-x
invariant-loop-x g l =
    l.colors ≡ map_from (spanned (in_row l.fn.span.start l.fn.span.y (color_seen l.fn.draw l.fn.setup)) (l.fn.span.start + l.fn.span.first) (l.fn.span.start + l.x)) 0 l.fn.colors
