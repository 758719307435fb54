use Rattle.std.proofs.Common.{◌≡◌, length}
use Rattle.block_recording.specs.Jobs.{items_down}
use Rattle.block_recording.proofs.steps.Steps.next_item.Given as goal

abbrev pub invariant-loop-item : goal.invariant-loop-item
invariant-loop-item g l = items_down l.self ≡ items_down l.initial.self

abbrev pub decreases-loop-item : goal.decreases-loop-item
decreases-loop-item g l = length l.self.lines
