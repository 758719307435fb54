use Rattle.std.proofs.Common.{take}
use Rattle.view_table.specs.Seen.{view_seen}
use Rattle.view_drawing.specs.Entries.{items_of}
use Rattle.view_drawing.specs.Prepared.{DoAllTo}
use Rattle.view_drawing.proofs.items.do_items.Given as goal

abbrev pub invariant-loop-one : goal.invariant-loop-one
invariant-loop-one l = DoAllTo l.stage.width l.stage.height l.stage.textures.now l.stage.programs.now (view_seen l.stage.view.now) (items_of l.frame (take l.one-index l.items)) l.fn.buffers l.fn.list l.buffers l.list
