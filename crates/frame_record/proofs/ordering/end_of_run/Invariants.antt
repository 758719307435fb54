use Rattle.std.proofs.Common.{◌≡◌, ◌≤◌, ◌<◌, ℕ, slice_index_or}
use Rattle.frame_record.specs.declared.ordering.OrderedItem.{OrderedItem}
use Rattle.frame_record.specs.Ordered.{position_of}
use Rattle.frame_record.proofs.ordering.end_of_run.Given as goal

-- the items before the place have the position
abbrev pub invariant-loop-at : goal.invariant-loop-at
invariant-loop-at l = (i : ℕ) (d : OrderedItem) → l.fn.from ≤ i → i < l.at → position_of (slice_index_or l.ordered i d) ≡ l.position
