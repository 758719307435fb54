use Rattle.std.proofs.Common.{◌≡◌, ◌+◌}
use Rattle.gfx_model.specs.Number.{map_from}
use Rattle.int_raster.specs.Places.{spanned, in_row}
use Rattle.int_raster.specs.Wiping.{one_texel}
use Rattle.int_raster.proofs.wipes.fill_span.Given as goal

-- the texels before the column are stored
abbrev pub invariant-loop-x : goal.invariant-loop-x
invariant-loop-x l =
    l.texels ≡ map_from (spanned (in_row l.fn.span.start l.fn.span.y (one_texel l.fn.texel)) (l.fn.span.start + l.fn.span.first) (l.fn.span.start + l.x)) 0 l.fn.texels
