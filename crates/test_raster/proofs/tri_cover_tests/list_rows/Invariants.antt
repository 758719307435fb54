use Rattle.std.proofs.Common.{◌-◌}
use Rattle.test_raster.proofs.tri_cover_tests.list_rows.Given as goal

abbrev pub decreases-loop-row : goal.decreases-loop-row
decreases-loop-row g l = l.bottom - l.row
