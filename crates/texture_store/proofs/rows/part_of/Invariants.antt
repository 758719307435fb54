use Rattle.std.proofs.Common.{◌≡◌}
use Rattle.texture_store.specs.Block.{part_of}
use Rattle.texture_store.proofs.rows.part_of.Given as goal

abbrev pub invariant-loop-r : goal.invariant-loop-r
invariant-loop-r l = l.part.items ≡ part_of l.from l.from_width l.cut.sx l.cut.sy l.cut.w l.r
