use Rattle.std.proofs.Common.{◌≡◌}
use Rattle.texel_rows.proofs.RowLaws.{AreWritten}
use Rattle.texel_rows.specs.Rows.{row_bytes}
use Rattle.texel_rows.proofs.rows.write_rows.Given as goal

abbrev pub invariant-loop-y : goal.invariant-loop-y
invariant-loop-y l = AreWritten (row_bytes l.order) l.width l.stride l.all l.y l.fn.buffer l.buffer
