use Rattle.tri_cover.specs.Walked.{AreSides}
use Rattle.test_raster.proofs.tri_cover_tests.step_rows.Given as goal

-- the sides stand at the row
abbrev pub invariant-loop-y : goal.invariant-loop-y
invariant-loop-y g l = AreSides l.sides l.fn.setup l.y-counter
