use Rattle.std.proofs.Common.{◌≡◌, take}
use Rattle.std.specs.Prelude.{fold}
use Rattle.store_laws.specs.Listed.{values_after}
use Rattle.view_drawing.specs.Entries.{items_of}
use Rattle.view_drawing.proofs.items.give_all.Given as goal

abbrev pub invariant-loop-one : goal.invariant-loop-one
invariant-loop-one l = l.buffers ≡ fold values_after l.fn.buffers (items_of l.frame (take l.one-index l.items))
