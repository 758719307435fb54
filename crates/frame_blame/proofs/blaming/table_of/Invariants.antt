use Rattle.std.proofs.Common.{◌≡◌, map, take}
use Rattle.gfx_model.specs.World.{pixels_of}
use Rattle.int_raster.specs.Seen.{surface_seen}
use Rattle.frame_blame.specs.Marks.{new_mark}
use Rattle.frame_blame.proofs.blaming.table_of.Given as goal

abbrev pub invariant-loop-place : goal.invariant-loop-place
invariant-loop-place l = l.marks.items ≡ map new_mark (take l.place (pixels_of (surface_seen l.surface)))
