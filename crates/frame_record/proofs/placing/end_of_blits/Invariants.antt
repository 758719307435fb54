use Rattle.std.proofs.Common.{◌≡◌, ◌≤◌, ◌<◌, ℕ, slice_index_or}
use Rattle.frame_record.specs.declared.placing.PlacedBlit.{PlacedBlit}
use Rattle.frame_record.proofs.placing.end_of_blits.Given as goal

-- the blits so far have the position
abbrev pub invariant-loop-at : goal.invariant-loop-at
invariant-loop-at l = (i : ℕ) (d : PlacedBlit) → l.fn.from ≤ i → i < l.at → (slice_index_or l.blits i d).position ≡ l.position
