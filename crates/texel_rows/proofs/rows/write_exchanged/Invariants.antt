use Rattle.std.proofs.Common.{◌≡◌, ◌*◌, take}
use Rattle.std.specs.List.{flat_map}
use Rattle.texel_rows.specs.Rows.{exchanged}
use Rattle.texel_rows.proofs.rows.write_exchanged.Given as goal

abbrev pub invariant-loop-i : goal.invariant-loop-i
invariant-loop-i l = take (4 * l.i) l.room ≡ flat_map exchanged (take l.i l.row)
