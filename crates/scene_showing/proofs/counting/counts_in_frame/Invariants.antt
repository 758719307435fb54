use Rattle.std.proofs.Common.{◌≡◌}
use Rattle.scene_showing.proofs.Counts.{entry_counts}
use Rattle.scene_showing.proofs.counting.counts_in_frame.Given as goal

-- the entries of the encoders so far are counted
abbrev pub invariant-loop-encoder : goal.invariant-loop-encoder
invariant-loop-encoder l = l.counts ≡ entry_counts l.encoder l.entries
