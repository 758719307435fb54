use Rattle.std.proofs.Common.{◌≡◌, map, take}
use Rattle.pass_laws.specs.Passed.{all_values}
use Rattle.view_drawing.specs.Passes.{turn_seen}
use Rattle.view_drawing.proofs.turns.give_turns.Given as goal

abbrev pub invariant-loop-one : goal.invariant-loop-one
invariant-loop-one l = l.buffers ≡ all_values l.fn.buffers (map turn_seen (take l.one-index l.views))
