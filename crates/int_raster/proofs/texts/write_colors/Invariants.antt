use Rattle.std.proofs.Common.{◌≡◌, ◌*◌, take}
use Rattle.std.specs.List.{flat_map}
use Rattle.int_raster.proofs.texts.write_colors.Given as goal

abbrev pub invariant-loop-i : goal.invariant-loop-i
invariant-loop-i l = take (3 * l.i) l.room ≡ flat_map (take 3) (take l.i l.colors)
