use Rattle.std.proofs.Common.{◌≡◌}
use Rattle.gfx_model.specs.Number.{map_from}
use Rattle.texture_store.specs.Block.{in_block, texel_of_row}
use Rattle.texture_store.proofs.rows.copy_rows.Given as goal

abbrev pub invariant-loop-r : goal.invariant-loop-r
invariant-loop-r l = l.to ≡ map_from (in_block l.width l.cut.dx l.cut.dy l.cut.w l.r (texel_of_row l.from l.from_width l.cut.dx l.cut.dy l.cut.sx l.cut.sy)) 0 l.initial.to
