use Rattle.int_raster.specs.Covered.{CoverRows}
use Rattle.int_raster.proofs.columns.covered_rows.Given as goal

-- the rows of the triangles before the index
abbrev pub invariant-loop-setup : goal.invariant-loop-setup
invariant-loop-setup l = CoverRows l.top l.bottom l.setup-index l.fn.triangles
