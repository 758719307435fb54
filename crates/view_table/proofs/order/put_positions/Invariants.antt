use Rattle.std.proofs.Common.{◌≡◌, ◌<◌, ℕ, slice_index}
use Rattle.view_table.proofs.order.put_positions.Given as goal

-- the positions of the views before the index are written
abbrev pub invariant-loop-at : goal.invariant-loop-at
invariant-loop-at l = (p : ℕ) → p < l.at → slice_index l.positions (slice_index l.fn.sequence p) ≡ p
