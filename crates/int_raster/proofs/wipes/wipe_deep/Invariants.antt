use Rattle.std.proofs.Common.{◌≡◌, fold, take}
use Rattle.int_raster.specs.Places.{below}
use Rattle.int_raster.specs.Bands.{deep, deep_after}
use Rattle.int_raster.specs.Wiping.{wipe_seen, wiped_step}
use Rattle.int_raster.proofs.wipes.wipe_deep.Given as goal

-- the wipes before the index are made
abbrev pub invariant-loop-wipe : goal.invariant-loop-wipe
invariant-loop-wipe l = deep l.colors l.depths ≡ fold (λ b x. deep_after l.fn.rows.width (below l.fn.rows.top (wiped_step (wipe_seen x))) b) (deep l.fn.colors l.fn.depths) (take l.wipe-index l.fn.wipes)
