use Rattle.std.proofs.Common.{map, take}
use Rattle.pass_bands.specs.Planned.{plan_seen}
use Rattle.view_drawing.specs.Passes.{turn_seen}
use Rattle.view_drawing.specs.Prepared.{DoTurnsTo}
use Rattle.view_drawing.proofs.plan_items.plan_turns.Given as goal

abbrev pub invariant-loop-one : goal.invariant-loop-one
invariant-loop-one l = DoTurnsTo l.things.width l.things.height l.things.textures.now l.things.programs.now (map turn_seen (take l.one-index l.views)) l.fn.buffers (plan_seen l.things.textures.now l.fn.plan) l.buffers (plan_seen l.things.textures.now l.plan)
