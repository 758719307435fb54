use Rattle.std.proofs.Common.{map, take}
use Rattle.view_drawing.specs.Passes.{turn_seen}
use Rattle.view_drawing.specs.Prepared.{DoTurnsTo}
use Rattle.view_drawing.proofs.turns.do_turns.Given as goal

abbrev pub invariant-loop-one : goal.invariant-loop-one
invariant-loop-one l = DoTurnsTo l.things.width l.things.height l.things.textures.now l.things.programs.now (map turn_seen (take l.one-index l.views)) l.fn.buffers l.fn.list l.buffers l.list
