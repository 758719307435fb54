use Rattle.std.proofs.Common.{◌≡◌, ◌++◌, map, drop}
use Rattle.shared_keys.specs.Marks.{shared_seen}
use Rattle.shared_keys.specs.Steps.{steps_from, steps_of}
use Rattle.shared_keys.proofs.least.steps.Given as goal

-- the steps so far, and those of the marks that are left
abbrev pub invariant-loop-right : goal.invariant-loop-right
invariant-loop-right l = map shared_seen l.steps.items ++ steps_from l.left (drop l.right-index l.rest) ≡ steps_of l.marks
