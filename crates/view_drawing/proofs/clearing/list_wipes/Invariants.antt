use Rattle.std.proofs.Common.{◌≡◌, map, take}
use Rattle.int_raster.specs.Wiping.{wipes_seen}
use Rattle.view_drawing.specs.Cleared.{wipings_of}
use Rattle.view_drawing.specs.Passes.{turn_seen}
use Rattle.view_drawing.proofs.clearing.list_wipes.Given as goal

-- what the clears of the views before the index take is listed
abbrev pub invariant-loop-one : goal.invariant-loop-one
invariant-loop-one l = wipes_seen l.wipes.items ≡ wipings_of l.fn.width l.fn.height (map turn_seen (take l.one-index l.fn.views))
