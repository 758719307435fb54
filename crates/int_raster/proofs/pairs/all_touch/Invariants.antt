use Rattle.std.specs.Prelude.{IsTrue}
use Rattle.int_raster.specs.Joined.{TouchAll}
use Rattle.int_raster.proofs.pairs.all_touch.Given as goal

-- where all rows before touch, they do
abbrev pub invariant-loop-k : goal.invariant-loop-k
invariant-loop-k l = IsTrue l.all → TouchAll l.fn.spans l.fn.others l.k
