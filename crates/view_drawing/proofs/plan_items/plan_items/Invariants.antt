use Rattle.std.proofs.Common.{take}
use Rattle.view_table.specs.Seen.{view_seen}
use Rattle.pass_bands.specs.Planned.{plan_seen}
use Rattle.view_drawing.specs.Entries.{items_of}
use Rattle.view_drawing.specs.Prepared.{DoAllTo}
use Rattle.view_drawing.proofs.plan_items.plan_items.Given as goal

abbrev pub invariant-loop-one : goal.invariant-loop-one
invariant-loop-one l = DoAllTo l.stage.width l.stage.height l.stage.textures.now l.stage.programs.now (view_seen l.stage.view.now) (items_of l.frame (take l.one-index l.items)) l.fn.buffers (plan_seen l.stage.textures.now l.fn.plan) l.buffers (plan_seen l.stage.textures.now l.plan)
