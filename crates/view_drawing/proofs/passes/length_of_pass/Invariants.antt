use Rattle.std.proofs.Common.{map, take}
use Rattle.std.specs.List.{AllByRecursion}
use Rattle.pass_laws.specs.Passed.{IsPass}
use Rattle.view_table.specs.Seen.{view_seen}
use Rattle.view_drawing.specs.Passes.{part_seen, turn_seen, HasNoBlits}
use Rattle.view_drawing.proofs.passes.length_of_pass.Given as goal

abbrev pub invariant-loop-count : goal.invariant-loop-count
invariant-loop-count l = record {
  pass : IsPass (view_seen l.first).target (map turn_seen (take l.count l.views));
  none : AllByRecursion HasNoBlits (map part_seen (take l.count l.views));
}
