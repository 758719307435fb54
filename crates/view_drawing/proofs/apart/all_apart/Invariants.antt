use Rattle.std.proofs.Common.{map, take}
use Rattle.std.specs.List.{AllByRecursion}
use Rattle.pass_laws.specs.Passed.{ClearsBefore}
use Rattle.view_table.specs.Seen.{view_seen}
use Rattle.view_drawing.specs.Passes.{turn_seen}
use Rattle.view_drawing.proofs.apart.all_apart.Given as goal

abbrev pub invariant-loop-one : goal.invariant-loop-one
invariant-loop-one l = AllByRecursion (λ t. ClearsBefore t.view (view_seen l.view)) (map turn_seen (take l.one-index l.views))
