use Rattle.std.proofs.Common.{◌≡◌, drop}
use Rattle.covered_rows.specs.Sweep.{sweep_from, sweep_of}
use Rattle.covered_rows.proofs.sweep.sweep.Given as goal

-- the sweep of the runs that are left is that of all
abbrev pub invariant-loop-right : goal.invariant-loop-right
invariant-loop-right l = sweep_from l.left (drop l.right-index l.rest) ≡ sweep_of l.runs
